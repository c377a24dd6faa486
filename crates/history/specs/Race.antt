-- Braidhatch as its host sees it, over the definitions of `process_output` and `process_input`; and what the claims look at in it.
use Rattle.std.specs.Prelude.{ℕ, ◌≡◌, Bool, true, false, not, ◌&&◌, ◌||◌}
use mathlib.Core.List.{List, Memᴰ}
use Rattle.records.specs.Lists.{some?}
use Rattle.records.specs.Names.{same_at}
use Rattle.records.specs.Rules.{is_named}
use Rattle.records.specs.Endpoints.{same_endpoint}
use Rattle.records.specs.declared.names.Names.{Names}
use Rattle.records.specs.declared.rules.Rules.{Rules}
use Rattle.records.specs.declared.rules.Timing.{Timing}
use Rattle.records.specs.declared.rules.Alts.{Alts}
use Rattle.records.specs.declared.rules.Mode.TheVariants as mode
use Rattle.records.specs.declared.queries.Kind.TheVariants.{Https}
use Rattle.records.specs.declared.queries.Query.{Query}
use Rattle.records.specs.declared.endpoints.Endpoint.{Endpoint}
use Rattle.listing.specs.Listing.{endpoints_to_attempt}
use Rattle.state.specs.State.{made, asked, tried}
use Rattle.state.specs.declared.Machine.{Machine}
use Rattle.state.specs.declared.changes.InputChange.{InputChange}
use Rattle.state.specs.declared.changes.InputChange.TheVariants as change
use Rattle.starting.specs.Surveys.{is_open_attempt, is_kind, is_answered, is_answered_kind, has_address, is_flying, asks_of, hints_of}
use Rattle.starting.specs.Starting.{some_address}
use Rattle.upcoming.specs.Next.{attempted}
use Rattle.input.specs.declared.Input.{Input}
use Rattle.machine.specs.declared.calls.Beside.{Beside}
use Rattle.machine.specs.declared.wish.Wish.{Wish}
use Rattle.machine.specs.Output.{wish_of, granted}
use Rattle.machine.specs.Steps.{called, change_of, judged, output_step, input_step}
use Rattle.history.specs.History.{Automaton}
use Rattle.history.specs.Facts.{View}

-- an input with what comes beside it, in form or not
pub record Fed : Type 0 where
  pub input : Input
  pub beside : Beside

abbrev pub race : Rules → Timing → Alts → Names → Automaton
race r t l n =
    record {
      State = Machine;
      Input = Fed;
      made = made r t l n;
      says = λ m now. (output_step m now).output;
      next = λ m now. (output_step m now).machine;
      feed = λ m now i. (input_step m now i.input i.beside).machine;
    }

-- an input is heeded if it changes something: it is accepted, and isn't the result of a cancelled attempt
abbrev pub changes : InputChange → Bool
changes change.Nothing = false
changes (change.Ends p a) = true
changes (change.Retries p a r) = true
changes (change.Holds p q) = true
changes (change.Empties p q) = true
changes (change.Offers p q round) = true

unfoldable pub heeds : Machine → ℕ → Fed → Bool
heeds m now i = changes (change_of (judged m now i.input))

-- a query, a refresh or an attempt has no answer
unfoldable pub unanswered : Machine → Bool
unanswered m =
    some? (λ q. not (is_answered q)) (asked m.queries)
    || (some? (λ q. is_flying q.refresh) (asked m.queries) || some? is_open_attempt (tried m.attempts))

-- the endpoints that are listed at a call, and whether one was attempted
unfoldable pub listed : Machine → List Endpoint
listed m = endpoints_to_attempt m.rules m.alts m.queries m.answers m.services (same_at m.names)

unfoldable pub was_attempted : Machine → Endpoint → Bool
was_attempted m e = attempted (same_endpoint m.names m.echs) m.attempts e

abbrev pub AllTried : Machine → Type 0
AllTried m = (e : Endpoint) → Memᴰ e (listed m) → was_attempted m e ≡ true

-- a record of type A or AAAA holds an address; hints, which come with HTTPS, don't count
abbrev pub holds_address : Query → Bool
holds_address q = not (is_kind Https q) && has_address q.answer

-- the last sentence's condition
pub data Condition (m : Machine) : Type 0 where
  address_origin : is_named m.rules.host ≡ false → Condition m
  mode_name : m.rules.mode ≡ mode.Name → Condition m
  https_answered : m.rules.mode ≡ mode.NameWithHttpsRr → some? (is_answered_kind Https) (asked m.queries) ≡ true → Condition m
  address_held : some? holds_address (asked m.queries) ≡ true → Condition m

-- wider: an address in any answer, or a hint
pub data WithHints (m : Machine) : Type 0 where
  as_before : Condition m → WithHints m
  any_address : some_address (asks_of m.queries) (hints_of m.services) ≡ true → WithHints m

-- An edition of the rules is what they call for at a moment. The calls over any edition: what is given for it, and the machine after that.
abbrev pub race_by : (Machine → ℕ → Wish) → Rules → Timing → Alts → Names → Automaton
race_by wish r t l n =
    record {
      State = Machine;
      Input = Fed;
      made = made r t l n;
      says = λ m now. (granted m.queries m.attempts m.ids (wish m now) now).output;
      next = λ m now. called m (granted m.queries m.attempts m.ids (wish m now) now).change;
      feed = λ m now i. (input_step m now i.input i.beside).machine;
    }

abbrev pub edition : Machine → ℕ → Wish
edition m now = wish_of m now

abbrev pub view : (wish : Machine → ℕ → Wish) (r : Rules) (t : Timing) (l : Alts) (n : Names) → View (race_by wish r t l n)
view wish r t l n = record { unanswered = unanswered; Condition = Condition; AllTried = AllTried; attempted = was_attempted }
