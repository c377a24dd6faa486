-- Items in a row, rule B.5 (document 01, "Numbers and bodies"): a count, at most its size, and so many items.
use Rattle.std.specs.Prelude.{cond, ℕ, zero, suc, List, [], ◌∷◌, nat_le}
use Rattle.numbers.specs.Fields.{at_most}
use Rattle.numbers.specs.Numbers.{read_number}
use Rattle.numbers.specs.Refusals.{too_many}
use Rattle.parts.specs.Reading.{Reading, read, fault, next, field}
use Rattle.parts.specs.declared.address.Items.{Items}

-- n items from the place p on, each read by f
unfoldable pub items : {A : Type 0} → (ℕ → Reading A) → (n p : ℕ) → Reading (List A)
items f zero p = read [] p
items f (suc n) p = next (f p) (λ a q. next (items f n q) (λ l end. read (a ∷ l) end))

-- the place after what is read: what a pass that keeps no value says
abbrev pub past : {A : Type 0} → Reading A → Reading (Unit {0})
past (read v p) = read tt p
past (fault n p) = fault n p

-- a count, at most `most`, and so many items; kept are how many they are and where the first stands
unfoldable pub counted : {A : Type 0} → (most : ℕ) → (ℕ → Reading A) → List ℕ → (p : ℕ) → Reading Items
counted most f s p = next (field p (at_most most too_many (read_number s p))) (λ n first. next (past (items f n first)) (λ t end. read (record { count = n; first = first }) end))

-- the items themselves: none where one of them can't be read
abbrev pub found : {A : Type 0} → Reading (List A) → List A
found (read l p) = l
found (fault n p) = []

-- the items that stand at a place, at most `most`
unfoldable pub listed : {A : Type 0} → (most : ℕ) → (ℕ → Reading A) → Items → List A
listed most f l = cond (nat_le l.count most) (found (items f l.count l.first)) []
