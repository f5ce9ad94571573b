-- 01's groups and coefficients by masks alone, and 0 at 0. Version 1 files have these; a fold that forgets flips would give them to version 2 files too.
use Rattle.std.specs.Prelude.{ℕ, zero, suc, ◌-◌, ◌*◌, ◌%◌, ◌^◌, ◌≡◌, List, [], ◌∷◌, ◌++◌, length, take, drop}
use Rattle.std.specs.Int.Count.{ones}
use Rattle.numbers.specs.Bits.{equal, subset}
use Rattle.circuit.specs.declared.Gate.{Gate}
use Rattle.circuit.specs.declared.Gate.TheVariants.{Cnot, Phase, Inverter}
use Rattle.circuit.specs.File.{version_of, wires_of, gates_of, file_of}
use Rattle.running.specs.Masks.{own_held, sum_met}
use Rattle.running.specs.Groups.{held_before}
use Rattle.fold.specs.Fold.{kept, first_only}

-- "phase gates met at the same mask are one group"
abbrev pub total_of_mask : ℕ → List Gate → ℕ → ℕ
total_of_mask w gs m = sum_met (λ k a. a * equal k.mask m) gs (own_held w) % 65536

abbrev pub earlier_of_mask : ℕ → List Gate → ℕ → ℕ → ℕ
earlier_of_mask w gs p m = sum_met (λ k a. equal k.mask m) (take p gs) (own_held w)

-- "The group's first gate stays in its place with the wrapped sum of the group"
abbrev pub becomes_by_mask : ℕ → List Gate → ℕ → Gate → List Gate
becomes_by_mask w gs p (Cnot c t) = Cnot c t ∷ []
becomes_by_mask w gs p (Phase i a) = first_only (earlier_of_mask w gs p (held_before w gs p i).mask) (kept i (total_of_mask w gs (held_before w gs p i).mask))
becomes_by_mask w gs p (Inverter i) = Inverter i ∷ []

unfoldable pub folded_by_mask_from : ℕ → List Gate → ℕ → List Gate → List Gate
folded_by_mask_from w gs p [] = []
folded_by_mask_from w gs p (g ∷ rest) = becomes_by_mask w gs p g ++ folded_by_mask_from w gs (suc p) rest

abbrev pub folded_by_mask : ℕ → List Gate → List Gate
folded_by_mask w gs = folded_by_mask_from w gs 0 gs

-- "(-2)^(|S|-1) times the sum of the angles of all phase gates whose mask contains S, modulo 65,536; at 0 it is 0"
unfoldable pub coefficient_by_mask : ℕ → List Gate → ℕ → ℕ
coefficient_by_mask w gs zero = 0
coefficient_by_mask w gs (suc s) = 65534 ^ (ones (suc s) - 1) * sum_met (λ h a. subset (suc s) h.mask * a) gs (own_held w) % 65536

-- a fold that groups by masks alone: the inputs are the file and the buffer
abbrev pub FoldsByMask : {Answer : Type 0} → List ℕ × List ℕ → Answer → List ℕ → Type 0
FoldsByMask input answer after =
    let file = file_of (version_of input.0) (wires_of input.0) (folded_by_mask (wires_of input.0) (gates_of input.0)) in
    after ≡ file ++ drop (length file) input.1
