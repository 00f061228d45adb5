-- Faults, and how the checks of a call follow one another. Assumes nothing.
use Rattle.std.specs.Prelude.{ℕ, zero, suc, Bool, true, false, List, ◌∷◌, ◌++◌, Some, None, Ok, Err, Option, Result, codes, decimal}
use Rattle.signs.specs.declared.faults.Fault.{Fault}
use Rattle.signs.specs.declared.faults.Layer.{Layer}
use Rattle.signs.specs.declared.faults.Layer.TheVariants as layer
use Rattle.signs.specs.declared.reason.Reason.{Reason}
use Rattle.signs.specs.declared.reason.Reason.TheVariants as reason

abbrev pub number_of : Reason → ℕ
number_of reason.Width = 1
number_of reason.Rows = 2
number_of reason.SignByte = 3
number_of reason.Unbalanced = 4
number_of reason.Seed = 5
number_of reason.Slot = 6
number_of reason.Block = 7
number_of reason.Interval = 8
number_of reason.Shape = 9
number_of reason.Table = 10
number_of reason.ForeignCells = 11
number_of reason.Weight = 12
number_of reason.Full = 13
number_of reason.Layout = 14
number_of reason.Field = 15
number_of reason.OptionOpen = 16
number_of reason.NoOption = 17
number_of reason.Card = 18
number_of reason.Figures = 19
number_of reason.Output = 20

-- F, S, L and D, by their codes
abbrev pub letter_of : Layer → ℕ
letter_of layer.Family = 70
letter_of layer.Sketch = 83
letter_of layer.List = 76
letter_of layer.StoredFile = 68

-- a fault of a layer, for a reason and at a place
abbrev pub layer_fault : Layer → Reason → ℕ → Fault
layer_fault who why at = record { reason = why; layer = who; place = at }

abbrev pub family_fault : Reason → ℕ → Fault
family_fault = layer_fault layer.Family

abbrev pub sketch_fault : Reason → ℕ → Fault
sketch_fault = layer_fault layer.Sketch

-- a fault in print, as `refused 5 F 0`
abbrev pub text_of : Fault → List ℕ
text_of f = codes "refused " ++ decimal (number_of f.reason) ++ codes " " ++ letter_of f.layer ∷ codes " " ++ decimal f.place

-- A refusal is a fault, or None where the call is accepted.
abbrev pub Refusal : Type 0
Refusal = Option Fault

abbrev pub accepts : Refusal → Bool
accepts (Some f) = false
accepts None = true

abbrev pub refuse_if : Bool → Fault → Refusal
refuse_if true f = Some f
refuse_if false f = None

-- one check, and then the next: the first that refuses counts
infixr 20 ◌⨾◌
abbrev pub ◌⨾◌ : Refusal → Refusal → Refusal
Some f ⨾ next = Some f
None ⨾ next = next

-- the checks of 0, 1, .. n - 1, in this order
unfoldable pub check_each : ℕ → (ℕ → Refusal) → Refusal
check_each zero check = None
check_each (suc n) check = check_each n check ⨾ check n

-- what a call answers: its fault, or else the value
abbrev pub answer : {A : Type 0} → Refusal → A → Result A Fault
answer (Some f) x = Err f
answer None x = Ok x

-- what a call leaves: where it is refused what was there before, and else what it makes
abbrev pub unless : {A : Type 0} → Refusal → A → A → A
unless (Some f) before made = before
unless None before made = made
