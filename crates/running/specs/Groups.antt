-- 01, "Running, counting, folding": "phase gates met at the same mask are one group"; 02 §12, "where mask and flip both agree".
use Rattle.std.specs.Prelude.{ℕ, ◌*◌, ◌%◌, List, take}
use Rattle.numbers.specs.Bits.{equal}
use Rattle.circuit.specs.declared.Gate.{Gate}
use Rattle.running.specs.Masks.{Held, held_at, own_held, held_from, sum_met}

-- 02 §12, "Two gates are one folding group .. where mask and flip both agree"
abbrev pub same_held : Held → Held → ℕ
same_held h k = equal h.mask k.mask * equal h.flip k.flip

-- "the wrapped sum of the group" of the phase gates that met h
abbrev pub group_total : ℕ → List Gate → Held → ℕ
group_total w gs h = sum_met (λ k a. a * same_held k h) gs (own_held w) % 65536

-- what wire i holds before the gate at position p
abbrev pub held_before : ℕ → List Gate → ℕ → ℕ → Held
held_before w gs p i = held_at (held_from (take p gs) (own_held w)) i

-- "The group's first gate": how many phase gates of h's group stand before position p
abbrev pub earlier : ℕ → List Gate → ℕ → Held → ℕ
earlier w gs p h = sum_met (λ k a. same_held k h) (take p gs) (own_held w)
