-- What is found by class is what is found with the bytes, and so is what is found one after the other; where nothing is looked for, nothing is
-- found.
use Rattle.std.specs.Prelude.{Some, None}
use mathlib.Core.Path.{◌≡◌, refl, sym, ap, ◌∙◌}
use mathlib.Core.Bool.{Bool, true, false, false≢true, ◌||◌}
use Rattle.records.specs.Classes.{same_class}
use Rattle.records.specs.Names.{same_at}
use Rattle.records.specs.Endpoints.{same_endpoint}
use Rattle.records.specs.declared.names.Names.{Names}
use Rattle.records.specs.declared.names.Echs.{Echs}
use Rattle.records.specs.declared.rules.Rules.{Rules}
use Rattle.records.specs.declared.rules.Alts.{Alts}
use Rattle.records.specs.declared.queries.Queries.{Queries}
use Rattle.records.specs.declared.queries.Answers.{Answers}
use Rattle.records.specs.declared.services.Services.{Services}
use Rattle.records.proofs.Classes.{classes-same}
use Rattle.listing.specs.Held.{Same}
use Rattle.state.specs.declared.attempts.Attempts.{Attempts}
use Rattle.state.specs.declared.attempts.Retries.{Retries}
use Rattle.upcoming.specs.Alike.{alike_endpoints, alike_of, same_hosts_of, same_echs_of}
use Rattle.upcoming.specs.Next.{Next, Alike, next_retry, next_endpoint}
use Rattle.upcoming.specs.Wanted.{Wanted, wanted_by}
use Rattle.upcoming.specs.declared.alike.Alike as classes
use Rattle.starting.specs.declared.surveys.Kinds.{Kinds}
use Rattle.upcoming.proofs.Classed.{alike_same}
use Rattle.machine.specs.declared.wish.Look.{Look}
use Rattle.machine.specs.declared.wish.Found.{Found}
use Rattle.machine.specs.declared.wish.Found.TheVariants as found
use Rattle.machine.specs.Output.{looks, if_looked, looks_on, retry_found, attempt_found, other_found, found_by}

-- two endpoints are one by class exactly if they are with their bytes
pub alike-bytes : (names : Names) (echs : Echs) → alike_endpoints (same_hosts_of names) (same_echs_of echs) ≡ same_endpoint names echs
alike-bytes names echs = λ j a b. alike_same names echs a b j

found-bytes : (names : Names) (echs : Echs) (look : Look) (k : Kinds) (r : Rules) (l : Alts) (q : Queries) (d : Answers) (s : Services) (a : Attempts) (retries : Retries) → found_by (same_class (alike_of names echs).names) (alike_endpoints (alike_of names echs).hosts (alike_of names echs).echs) look k r l q d s a retries ≡ found_by (same_at names) (same_endpoint names echs) look k r l q d s a retries
unfolding alike_of
found-bytes names echs look k r l q d s a retries =
    ap (λ same. found_by same (alike_endpoints (same_hosts_of names) (same_echs_of echs)) look k r l q d s a retries) (classes-same names)
    ∙ ap (λ alike. found_by (same_at names) alike look k r l q d s a retries) (alike-bytes names echs)

pub found-same : (names : Names) (echs : Echs) (alike : classes.Alike) (look : Look) (k : Kinds) (r : Rules) (l : Alts) (q : Queries) (d : Answers) (s : Services) (a : Attempts) (retries : Retries) → alike ≡ alike_of names echs → found_by (same_class alike.names) (alike_endpoints alike.hosts alike.echs) look k r l q d s a retries ≡ found_by (same_at names) (same_endpoint names echs) look k r l q d s a retries
found-same names echs alike look k r l q d s a retries e =
    ap (λ x. found_by (same_class x.names) (alike_endpoints x.hosts x.echs) look k r l q d s a retries) e ∙ found-bytes names echs look k r l q d s a retries

nothing : (a b c : Bool) (n m : Next) (w : Wanted) → a || (b || c) ≡ false → retry_found (if_looked a n) (attempt_found (if_looked b m) (other_found c w)) ≡ found.Nothing
nothing true b c n m w e = absurd (false≢true (sym e))
nothing false true c n m w e = absurd (false≢true (sym e))
nothing false false true n m w e = absurd (false≢true (sym e))
nothing false false false n m w e = refl

pub found_nothing : (same : Same) (alike : Alike) (look : Look) (k : Kinds) (r : Rules) (l : Alts) (q : Queries) (d : Answers) (s : Services) (a : Attempts) (retries : Retries) → looks look ≡ false → found_by same alike look k r l q d s a retries ≡ found.Nothing
unfolding found_by
found_nothing same alike look k r l q d s a retries e =
    nothing look.retry look.next look.query (next_retry alike a retries) (next_endpoint alike r l q d s a same) (wanted_by k r l q s same) e

-- what is found one after the other, the next endpoint only where there is no retry, is what is found
one_by_one : (r : Next) (on : Bool) (n : Next) (f : Found) → retry_found r (attempt_found (if_looked (looks_on on r) n) f) ≡ retry_found r (attempt_found (if_looked on n) f)
one_by_one None on n f = refl
one_by_one (Some e) on n f = refl

pub found-by : (same : Same) (alike : Alike) (look : Look) (k : Kinds) (r : Rules) (l : Alts) (q : Queries) (d : Answers) (s : Services) (a : Attempts) (retries : Retries) {retry n : Next} {on : Bool} {f : Found} → retry ≡ if_looked look.retry (next_retry alike a retries) → on ≡ looks_on look.next retry → n ≡ if_looked on (next_endpoint alike r l q d s a same) → f ≡ retry_found retry (attempt_found n (other_found look.query (wanted_by k r l q s same))) → f ≡ found_by same alike look k r l q d s a retries
unfolding found_by
found-by same alike look k r l q d s a retries {retry = retry} u o v w =
    w ∙ (ap (λ n. retry_found retry (attempt_found n (other_found look.query (wanted_by k r l q s same)))) (v ∙ ap (λ x. if_looked x (next_endpoint alike r l q d s a same)) o)
    ∙ (one_by_one retry look.next (next_endpoint alike r l q d s a same) _
    ∙ ap (λ x. retry_found x (attempt_found (if_looked look.next (next_endpoint alike r l q d s a same)) (other_found look.query (wanted_by k r l q s same)))) u))

pub ruleset looking = (found-same, found_nothing, found-by)
