-- Prefix, port, label and name, one behind the other.
use mathlib.Core.Path.{◌≡◌, ap, ◌∙◌}
use mathlib.Core.List.{◌++◌}
use Rattle.state.specs.Https.{decimal, underscore, https_label, prefixed, name_in}
use Rattle.state.proofs.Putting.{begun, put_next, again, again_none, digits_front}
use Rattle.state.proofs.https.https_name.Goals as goal

pub push-requires : goal.push-requires
push-requires c = again_none _ c.no_name-name.ensures

pub push-requires-2 : goal.push-requires-2
push-requires-2 c = again _ _ c.push.ensures

pub push-requires-3 : goal.push-requires-3
push-requires-3 c = again _ _ c.push-2.ensures

pub push-requires-4 : goal.push-requires-4
push-requires-4 c = again _ _ c.push-3.ensures

pub returns : goal.returns
unfolding prefixed
returns c =
    let first = begun _ _ underscore c.no_name-name.ensures c.push.ensures in
    let digits = c.as_bytes.ensures ∙ digits_front _ _ c.digits_of.ensures in
    let second = put_next _ _ underscore _ first c.push-2.ensures ∙ ap (λ ds. name_in (underscore ++ ds)) digits in
    let third = put_next _ _ (underscore ++ decimal 5 c.args.port) https_label second c.push-3.ensures in
    put_next _ _ ((underscore ++ decimal 5 c.args.port) ++ https_label) _ third c.push-4.ensures
    ∙ ap (λ bs. name_in (((underscore ++ decimal 5 c.args.port) ++ https_label) ++ bs)) c.as_bytes-2.ensures
