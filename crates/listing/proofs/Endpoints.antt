-- The listing as endpoints: each tier's endpoints interleaved by rank and family of the target, its members, when none of it is left, and what of the
-- records it depends on (of the configuration it is given no more than it reads); and how many ranks versions give.
use Prim.Native.Nat.{◌≤◌}
use mathlib.Core.Path.{◌≡◌, sym, ap, ◌∙◌}
use mathlib.Core.Bool.{Bool, true, false, not, not-not}
use mathlib.Core.List.Memᴰ
use mathlib.Core.List.{List, map, Memᴰ}
use mathlib.Core.Option.{none}
use native.Mathlib.Omega.{arith}
use lib.ListN.{length, take, length-append}
use Rattle.deal.specs.Interleaving.{interleave}
use Rattle.deal.specs.Interleaving as dealing
use Rattle.deal.proofs.Laws.{natural, group-ext}
use Rattle.records.specs.Numbers.{rank_number}
use Rattle.records.specs.Names.{same_at}
use Rattle.records.specs.Endpoints.{Shown, shown}
use Rattle.records.specs.References.{endpoint_of}
use Rattle.listing.specs.Held.{Same}
use Rattle.records.specs.Lists.{each, first_of}
use Rattle.listing.specs.Items.{group_of, endpoint_group}
use Rattle.listing.specs.Listing.{quic, combined, from_http_versions, tiers, dealt, items_to_attempt, endpoints_to_attempt, shown_to_attempt}
use Rattle.records.specs.Rules.{prefers_six}
use Rattle.records.specs.declared.rules.Rules.{Rules}
use Rattle.records.specs.declared.rules.Versions.{Versions}
use Rattle.records.specs.declared.rules.Alts.{Alts}
use Rattle.records.specs.declared.queries.Queries.{Queries}
use Rattle.records.specs.declared.queries.Answers.{Answers}
use Rattle.records.specs.declared.services.Services.{Services}
use Rattle.records.specs.declared.names.Names.{Names}
use Rattle.records.specs.declared.names.Echs.{Echs}
use Rattle.records.specs.declared.endpoints.Endpoint.{Endpoint}
use Rattle.records.specs.declared.references.Item.{Item}
use Rattle.records.proofs.First.{none-if, only-if-none}
use Rattle.listing.proofs.Tiers.{map_each, each_map}
use Rattle.listing.proofs.Laws.{family-right, listed-member, member-listed, known, held-only}

module _ (r : Rules) (a : Alts) (d : Answers) (s : Services) where
  -- a reference stands in the group of its endpoint
  pub group-right : (prefer6 : Bool) (x : Item) → group_of prefer6 x ≡ endpoint_group prefer6 (endpoint_of r a d s x)
  unfolding endpoint_of
  group-right prefer6 x = ap (dealing.group_of (rank_number x.rank)) (family-right r a d s prefer6 x.place x.source)

  -- one tier: the endpoints of the dealt references are the endpoints, dealt
  pub tier-endpoints : (xs : List Item) → map (endpoint_of r a d s) (dealt r xs) ≡ interleave (endpoint_group (prefers_six r.preference)) (map (endpoint_of r a d s) xs)
  unfolding dealt
  tier-endpoints xs =
      let b = prefers_six r.preference in
      ap (map (endpoint_of r a d s)) (group-ext (group_of b) (λ x. endpoint_group b (endpoint_of r a d s x)) xs (λ x m. group-right b x))
      ∙ sym (natural (endpoint_of r a d s) (endpoint_group b) xs)

  -- The listing as endpoints: each tier's endpoints, interleaved alone by (rank, family of the target).
  pub as-endpoints : (q : Queries) (n : Same) → endpoints_to_attempt r a q d s n ≡ each (interleave (endpoint_group (prefers_six r.preference))) (map (map (endpoint_of r a d s)) (tiers r a q s n))
  unfolding endpoints_to_attempt items_to_attempt
  as-endpoints q n =
      let f = interleave (endpoint_group (prefers_six r.preference)) in
      map_each (endpoint_of r a d s) (dealt r) (λ xs. f (map (endpoint_of r a d s) xs)) tier-endpoints (tiers r a q s n)
      ∙ sym (each_map f (map (endpoint_of r a d s)) (tiers r a q s n))

module _ (r : Rules) (a : Alts) (q : Queries) (d : Answers) (s : Services) (n : Same) where
  -- An endpoint is listed exactly if it is the endpoint of a reference in some tier.
  pub endpoint-from : (x : Endpoint) → Memᴰ x (endpoints_to_attempt r a q d s n) → (t : List Item) × (i : Item) × Memᴰ t (tiers r a q s n) × Memᴰ i t × (endpoint_of r a d s i ≡ x)
  unfolding endpoints_to_attempt
  endpoint-from x m =
      let w = Memᴰ.of_map (endpoint_of r a d s) (items_to_attempt r a q s n) m in
      let v = listed-member r a q s n w.0 w.1 in
      (v.0, w.0, v.1, v.2, w.2)

  pub endpoint-listed : (t : List Item) (i : Item) → Memᴰ t (tiers r a q s n) → Memᴰ i t → Memᴰ (endpoint_of r a d s i) (endpoints_to_attempt r a q d s n)
  unfolding endpoints_to_attempt
  endpoint-listed t i m h = Memᴰ.map (endpoint_of r a d s) (member-listed r a q s n i t m h)

-- None of the listing is left exactly when every member, with its bytes, was attempted.
module _ (r : Rules) (a : Alts) (q : Queries) (d : Answers) (s : Services) (n : Names) (e : Echs) (attempted : Shown → Bool) where
  pub none_left : ((x : Shown) → Memᴰ x (shown_to_attempt r a q d s n e) → attempted x ≡ true) → first_of (λ x. not (attempted x)) (shown_to_attempt r a q d s n e) ≡ none
  none_left h = none-if (λ x. not (attempted x)) (shown_to_attempt r a q d s n e) (λ x m. ap not (h x m))

  pub all-attempted : first_of (λ x. not (attempted x)) (shown_to_attempt r a q d s n e) ≡ none → (x : Shown) → Memᴰ x (shown_to_attempt r a q d s n e) → attempted x ≡ true
  all-attempted p x m = sym (not-not (attempted x)) ∙ ap not (only-if-none (λ y. not (attempted y)) (shown_to_attempt r a q d s n e) p x m)

-- Records of which the same is known list the same, with their bytes too.
pub held-only-shown : (r : Rules) (a : Alts) (q p : Queries) (d : Answers) (s : Services) (n : Names) (e : Echs) → map known (take q.count q.list) ≡ map known (take p.count p.list) → shown_to_attempt r a q d s n e ≡ shown_to_attempt r a p d s n e
unfolding shown_to_attempt endpoints_to_attempt
held-only-shown r a q p d s n e same = ap (λ l. map (shown n e) (map (endpoint_of r a d s) l)) (held-only (same_at n) q p same r a s)

quic-one : (b : Bool) → length (quic b) ≤ 1
quic-one true = omega arith
quic-one false = omega arith

combined-one : (b c : Bool) → length (combined b c) ≤ 1
combined-one true true = omega arith
combined-one true false = omega arith
combined-one false true = omega arith
combined-one false false = omega arith

-- Versions give at most two ranks.
pub at_most_two : (v : Versions) → length (from_http_versions v) ≤ 2
unfolding from_http_versions
at_most_two v = omega (arith, length-append (quic v.h3) (combined v.h2 v.h1), quic-one v.h3, combined-one v.h2 v.h1)
