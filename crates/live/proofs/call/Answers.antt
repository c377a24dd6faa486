-- `live::call` meets its contract, by whether the answer fitted.
use Prim.Native.Nat.{◌<◌}
use mathlib.Core.Path.{◌≡◌, ap, ◌∙◌}
use native.Mathlib.Omega.{arith}
use Rattle.numbers.specs.Put.{put_answer, put_bytes}
use Rattle.numbers.specs.Shown.{wrote_shown}
use Rattle.machine.specs.Steps.{output_step}
use Rattle.live.specs.Live.{called_bytes}
use Rattle.live.proofs.Calling.{name-place, ech-place, bytes-said, was-full, was-written}
use Rattle.live.proofs.call.Goals as goal

named : (c : goal.After-origin-1) → c.output_name-np.result < 14
named c = rw c.output_name-np.ensures (name-place _)

sealed : (c : goal.After-name-1) → c.output_ech-ep.result < 40
sealed c = rw c.output_ech-ep.ensures (ech-place _)

stepped : (y : goal.In-Ok) → y.process_output-step.result ≡ output_step y.args.m y.args.moment
stepped y = y.process_output-step.ensures

stepped-2 : (y : goal.In-Err) → y.process_output-step.result ≡ output_step y.args.m y.args.moment
stepped-2 y = y.process_output-step.ensures

shown : (y : goal.In-Err) → wrote_shown y.put_output-wrote.result ≡ put_answer y.args.out.now 0 (called_bytes y.args.m y.args.moment)
shown y = y.put_output-wrote.ensures.answer ∙ ap (put_answer y.args.out.now 0) (bytes-said _ _ _ _ _ (stepped-2 y) y.output_name-np.ensures y.output_ech-ep.ensures)

shown-2 : (y : goal.In-Ok) → wrote_shown y.put_output-wrote.result ≡ put_answer y.args.out.now 0 (called_bytes y.args.m y.args.moment)
shown-2 y = y.put_output-wrote.ensures.answer ∙ ap (put_answer y.args.out.now 0) (bytes-said _ _ _ _ _ (stepped y) y.output_name-np.ensures y.output_ech-ep.ensures)

stored : (y : goal.In-Err) → y.put_output-wrote.new.out ≡ put_bytes y.args.out.now 0 (called_bytes y.args.m y.args.moment)
stored y = y.put_output-wrote.ensures.bytes ∙ ap (put_bytes y.args.out.now 0) (bytes-said _ _ _ _ _ (stepped-2 y) y.output_name-np.ensures y.output_ech-ep.ensures)

stored-2 : (y : goal.In-Ok) → y.put_output-wrote.new.out ≡ put_bytes y.args.out.now 0 (called_bytes y.args.m y.args.moment)
stored-2 y = y.put_output-wrote.ensures.bytes ∙ ap (put_bytes y.args.out.now 0) (bytes-said _ _ _ _ _ (stepped y) y.output_name-np.ensures y.output_ech-ep.ensures)

pub offset_bounds-names-np : goal.offset_bounds-names-np
offset_bounds-names-np c = omega (arith, named c)

pub bounds-names-np : goal.bounds-names-np
bounds-names-np c = named c

pub offset_bounds-echs-ep : goal.offset_bounds-echs-ep
offset_bounds-echs-ep c = omega (arith, sealed c)

pub bounds-echs-ep : goal.bounds-echs-ep
bounds-echs-ep c = sealed c

pub returns-in-Err : goal.returns-in-Err
returns-in-Err c = (was-full _ _ _ _ c.in-Err.is (shown c), stored c)

pub returns-in-Ok : goal.returns-in-Ok
returns-in-Ok c =
    let s = stepped c in
    (rw (s) (was-written _ _ _ _ c.in-Ok.is (shown-2 c)), stored-2 c)
