-- What is false: claim 2 without a part of its premise, of Braidhatch itself (proofs/Histories.antt), and claims 1 and 2 with a smaller number,
-- of a machine that has the facts (proofs/Needed.antt).
use Rattle.std.specs.Prelude.{ℕ, ◌≤◌, true, false, List, [], ◌∷◌, ◌++◌, length, take}
use Rattle.records.specs.declared.rules.Rules.{Rules}
use Rattle.records.specs.declared.rules.Timing.{Timing}
use Rattle.records.specs.declared.rules.Host.TheVariants as host
use Rattle.records.specs.declared.rules.Mode.TheVariants as mode
use Rattle.records.specs.declared.rules.Preference.TheVariants.{Ipv6Only}
use Rattle.records.specs.declared.queries.Kind.TheVariants.{Https}
use Rattle.input.specs.declared.Input.TheVariants as fed
use Rattle.machine.specs.declared.calls.Beside.{Beside}
use Rattle.history.specs.Race.{Fed}
use Rattle.history.specs.History.{Automaton, Event, call, input, calls, runs, answers, asks_in, finals_in, rising, Exactly, keeps}
use Rattle.history.specs.Claims.{Premise}

-- the clock may have gone back before the last input
unfoldable pub ClockBack : Automaton → Type 0
ClockBack M = (before : List (Event M.Input)) (us : List ℕ)
    → rising {I = M.Input} (calls us)
    → keeps Exactly M (runs M M.made before) (calls us)
    → 288 ≤ length us
    → 1 ≤ finals_in (take 288 (answers M (runs M M.made before) (calls us)))

-- the host may call before a timer's end
unfoldable pub AnyTime : Automaton → Type 0
AnyTime M = (before : List (Event M.Input)) (us : List ℕ)
    → rising (before ++ calls us)
    → 288 ≤ length us
    → 1 ≤ finals_in (take 288 (answers M (runs M M.made before) (calls us)))

-- smaller numbers
unfoldable pub AtMost94 : Automaton → Type 0
AtMost94 M = (h : List (Event M.Input)) → asks_in (answers M M.made h) ≤ 94

unfoldable pub By287 : Automaton → Type 0
By287 M = (before : List (Event M.Input)) (us : List ℕ)
    → Premise M before us
    → 287 ≤ length us
    → 1 ≤ finals_in (take 287 (answers M (runs M M.made before) (calls us)))

-- Histories of Braidhatch itself: a named origin, IPv6 only, a resolution delay of 10, and an HTTPS answer that failed at a moment

abbrev pub six_only : Rules
six_only =
    record {
      host = host.Named;
      port = 443;
      versions = record { h3 = true; h2 = true; h1 = true };
      preference = Ipv6Only;
      mode = mode.Ip;
      ech = true;
    }

abbrev pub ten_long : Timing
ten_long = record { wait = true; multiplier = 1; resolution = 10; delay = 250_000_000 }

-- two queries go out at 0, and the first one's answer comes at t
abbrev pub asks_then_hears : (b : Beside) (t : ℕ) → List (Event Fed)
asks_then_hears b t = call 0 ∷ call 0 ∷ input t (record { input = fed.Fails Https 0 false; beside = b }) ∷ []
