-- The code's way is the rules': the wish from what is found, where only what may be there is looked for, is what the rules call for.
use Rattle.std.specs.Prelude.{Option, Some, None}
use Prim.Native.Nat.{ℕ, ◌+◌}
use mathlib.Core.Path.{◌≡◌, refl, sym, ap, ◌∙◌}
use mathlib.Core.Bool.{Bool, true, false, false≢true, cond, ◌||◌}
use mathlib.Core.List.{List, []}
use native.Mathlib.Omega.{arith}
use lib.Dec.{ltb as nat_lt}
use lib.ListN.{take}
use borrow.Author.Tests.{ltb-false}
use Rattle.records.specs.Lists.{first_of}
use Rattle.records.specs.Services.{any_ech}
use Rattle.records.specs.declared.rules.Rules.{Rules}
use Rattle.records.specs.declared.rules.Timing.{Timing}
use Rattle.records.specs.declared.rules.Alts.{Alts}
use Rattle.records.specs.declared.rules.Mode.{Mode}
use Rattle.records.specs.declared.rules.Mode.TheVariants as mode
use Rattle.records.specs.declared.queries.Queries.{Queries}
use Rattle.records.specs.declared.queries.Answers.{Answers}
use Rattle.records.specs.declared.services.Services.{Services}
use Rattle.listing.specs.Held.{Same}
use Rattle.state.specs.declared.attempts.Attempts.{Attempts}
use Rattle.state.specs.declared.attempts.Retries.{Retries}
use Rattle.starting.specs.Surveys.{tries_of, asks_of, hints_of}
use Rattle.upcoming.specs.Wanted.{Wanted, or_wanted, first_wanted, target_wanted, alt_wanted, origin_wanted, targets_wanted, alts_wanted, wanted_in, wanted_by, next_query}
use Rattle.upcoming.specs.Next.{Next, Alike, retry_endpoints, next_retry, next_endpoint}
use Rattle.machine.specs.declared.calls.Survey.{Survey}
use Rattle.machine.specs.declared.wish.Look.{Look}
use Rattle.machine.specs.declared.wish.Found.{Found}
use Rattle.machine.specs.declared.wish.Wish.{Wish}
use Rattle.machine.specs.Steps.{survey_of}
use Rattle.machine.specs.Output.{end_wish, rest_wish, query_wish, attempt_wish, retry_wish, gate, wish_by, no_look, has_others, look_of, retry_found, attempt_found, other_found, if_looked, found_by, origin_in, next_origin, wish_found, wish_from}

-- the query: where nothing but the origin's can be wanted, none is looked for
query-way : (on : Bool) (m : Mode) (o others : Wanted) (rest : Wish) → (on ≡ false → others ≡ None) → wish_found (other_found on (wanted_in m o others)) (query_wish (origin_in m o) rest) ≡ query_wish (wanted_in m o others) rest
query-way true mode.Ip (Some (k, p)) others rest h = refl
query-way true mode.Ip None (Some (k, p)) rest h = refl
query-way true mode.Ip None None rest h = refl
query-way false mode.Ip (Some (k, p)) others rest h = refl
query-way false mode.Ip None others rest h = sym (ap (λ x. query_wish x rest) (h refl))
query-way true mode.Name o others rest h = refl
query-way false mode.Name o others rest h = refl
query-way true mode.NameWithHttpsRr (Some (k, p)) others rest h = refl
query-way true mode.NameWithHttpsRr None others rest h = refl
query-way false mode.NameWithHttpsRr o others rest h = refl

attempt-way : (n : Next) (f : Found) (base rest : Wish) → wish_found f base ≡ rest → wish_found (attempt_found n f) base ≡ attempt_wish n rest
attempt-way (Some e) f base rest h = refl
attempt-way None f base rest h = h

retry-way : (on : Bool) (n : Next) (f : Found) (base rest : Wish) → (on ≡ false → n ≡ None) → wish_found f base ≡ rest → wish_found (retry_found (if_looked on n) f) base ≡ retry_wish n rest
retry-way true (Some e) f base rest k h = refl
retry-way true None f base rest k h = h
retry-way false n f base rest k h = h ∙ sym (ap (λ x. retry_wish x rest) (k refl))

way : (won retry gated other : Bool) (look : Look) (first : Option ℕ) (nr ne : Next) (m : Mode) (o others : Wanted) (rest : Wish) → look ≡ cond won no_look (record { retry = retry; next = gated; query = other }) → (retry ≡ false → nr ≡ None) → (other ≡ false → others ≡ None) → cond won (end_wish first) (wish_found (retry_found (if_looked look.retry nr) (attempt_found (if_looked look.next ne) (other_found look.query (wanted_in m o others)))) (query_wish (origin_in m o) rest)) ≡ cond won (end_wish first) (retry_wish nr (attempt_wish (cond gated ne None) (query_wish (wanted_in m o others) rest)))
way true retry gated other look first nr ne m o others rest l h k = refl
way false retry gated other look first nr ne m o others rest l h k =
    rw l (retry-way retry nr _ _ _ h (attempt-way (cond gated ne None) _ _ _ (query-way other m o others rest k)))

-- nothing is taken where the count is 0
taken_none : {A : Type 0} (n : ℕ) (l : List A) → nat_lt 0 n ≡ false → take n l ≡ []
taken_none n l e = ap (λ k. take k l) (none n e)
  where
    none : (k : ℕ) → nat_lt 0 k ≡ false → k ≡ 0
    none k h = omega (arith, ltb-false 0 k h)

no-retry : (alike : Alike) (a : Attempts) (r : Retries) → nat_lt 0 r.count ≡ false → next_retry alike a r ≡ None
unfolding next_retry retry_endpoints first_of
no-retry alike a r e = rw (taken_none r.count r.list e)

no_target : (r : Rules) (q : Queries) (s : Services) (same : Same) → nat_lt 0 s.count ≡ false → targets_wanted r q s same ≡ None
unfolding targets_wanted first_wanted
no_target r q s same e = ap (first_wanted (λ i. target_wanted r.preference q same (any_ech r.ech s)) 0) (taken_none s.count s.list e)

no-alt : (r : Rules) (l : Alts) (q : Queries) (same : Same) → nat_lt 0 l.count ≡ false → alts_wanted r l q same ≡ None
unfolding alts_wanted first_wanted
no-alt r l q same e = ap (first_wanted (λ i x. alt_wanted r.preference q same (i + 1) x.host) 0) (taken_none l.count l.list e)

neither : (a b : Bool) (v w : Wanted) → a || b ≡ false → (a ≡ false → v ≡ None) → (b ≡ false → w ≡ None) → or_wanted v w ≡ None
neither true b v w e h k = absurd (false≢true (sym e))
neither false b v w e h k = ap (λ x. or_wanted x w) (h refl) ∙ k e

-- what the code finds is what the rules call for
pub found-way : (same : Same) (alike : Alike) (r : Rules) (t : Timing) (l : Alts) (q : Queries) (d : Answers) (s : Services) (a : Attempts) (retries : Retries) (now : ℕ) → wish_from r t (tries_of a) (asks_of q) (found_by same alike (look_of r t (tries_of a) (asks_of q) (hints_of s) retries.count s.count l.count now) (asks_of q).asked r l q d s a retries) a.count now ≡ wish_by same alike r t l q d s a retries now
unfolding wish_from found_by look_of wish_by next_origin next_query wanted_by asks_of
found-way same alike r t l q d s a retries now =
    way (tries_of a).won (nat_lt 0 retries.count) (gate r t (tries_of a) (asks_of q) (hints_of s) now) (has_others s.count l.count) _ (tries_of a).first (next_retry alike a retries) (next_endpoint alike r l q d s a same) r.mode (origin_wanted r (asks_of q).asked) (or_wanted (targets_wanted r q s same) (alts_wanted r l q same)) (rest_wish t (tries_of a) (asks_of q) a.count now) refl (no-retry alike a retries) (λ e. neither (nat_lt 0 s.count) (nat_lt 0 l.count) _ _ e (no_target r q s same) (no-alt r l q same))

-- so the wish from a survey, and from what is found for it, is what the rules call for
pub wish-seen : (same : Same) (alike : Alike) (r : Rules) (t : Timing) (l : Alts) (q : Queries) (d : Answers) (s : Services) (a : Attempts) (retries : Retries) (now : ℕ) (seen : Survey) (found : Found) (w : Wish) → seen ≡ survey_of r t l.count q s a retries.count now → found ≡ found_by same alike seen.look seen.asks.asked r l q d s a retries → w ≡ wish_from r t seen.tries seen.asks found a.count now → w ≡ wish_by same alike r t l q d s a retries now
unfolding survey_of
wish-seen same alike r t l q d s a retries now seen found w e f v = v ∙ rw (f, e) (found-way same alike r t l q d s a retries now)

pub ruleset seen = (wish-seen)
