-- The gates that bytes say, four a gate: one taken from the front, and those of a good file, which are its list.
use Prim.Native.Nat.{ℕ, ◌+◌, ◌-◌, ◌*◌, ◌/◌, ◌%◌, ◌≤◌, ◌<◌}
use native.Mathlib.Omega.{arith}
use mathlib.Core.Path.{◌≡◌, refl, ap, ◌∙◌}
use mathlib.Core.List.{List, [], ◌∷◌}
use lib.ListN.{length, get_or, take, drop, length-drop}
use lib.Seq.{take_all}
use Rattle.circuit.specs.declared.Gate.{Gate}
use Rattle.circuit.specs.declared.Gate.TheVariants.{Cnot, Phase, Inverter}
use Rattle.circuit.specs.Bytes.{Bytes}
use Rattle.circuit.specs.Gates.{gate_said, bytes_of}
use Rattle.circuit.specs.File.{version_of, wires_of, gates_of}
use Rattle.circuit.specs.Working.{said_gates, AllSound}
use Rattle.circuit.proofs.Callers.{GoodFile}
use Rattle.circuit.proofs.Files.{file_written, rest_written, file_sound}
use Rattle.circuit.proofs.Decoding.{all_wider}

-- fewer than four bytes say no gate
pub none_said : (bs : List ℕ) → length bs < 4 → said_gates bs ≡ []
unfolding said_gates
none_said [] h = refl
none_said (a ∷ []) h = refl
none_said (a ∷ b ∷ []) h = refl
none_said (a ∷ b ∷ c ∷ []) h = refl
none_said (k ∷ a ∷ b ∷ c ∷ bs) h = absurd (omega arith)

-- the first four say the first
pub first_said : (bs : List ℕ) → 4 ≤ length bs
    → said_gates bs ≡ gate_said (get_or (take 4 bs) 0 0) (get_or (take 4 bs) 1 0) (get_or (take 4 bs) 2 0) (get_or (take 4 bs) 3 0) ∷ said_gates (drop 4 bs)
unfolding said_gates
first_said [] h = absurd (omega arith)
first_said (a ∷ []) h = absurd (omega arith)
first_said (a ∷ b ∷ []) h = absurd (omega arith)
first_said (a ∷ b ∷ c ∷ []) h = absurd (omega arith)
first_said (k ∷ a ∷ b ∷ c ∷ bs) h = refl

pub next_said : (bs four left : List ℕ) (g : Gate) → four ≡ take 4 bs → left ≡ drop 4 bs → 4 ≤ length bs
    → g ≡ gate_said (get_or four 0 0) (get_or four 1 0) (get_or four 2 0) (get_or four 3 0) → said_gates bs ≡ g ∷ said_gates left
next_said bs four left g p q h e = first_said bs h ∙ rw (e, p, q) refl

-- there are as many as there are fours
pub said_long : (bs : List ℕ) → length (said_gates bs) ≡ length bs / 4
unfolding said_gates
said_long [] = refl
said_long (a ∷ []) = refl
said_long (a ∷ b ∷ []) = refl
said_long (a ∷ b ∷ c ∷ []) = refl
said_long (k ∷ a ∷ b ∷ c ∷ bs) = omega (arith, said_long bs)

-- the bytes of a gate list say it
pub list_said : (gs : List Gate) → said_gates (bytes_of gs) ≡ gs
unfolding said_gates bytes_of
list_said [] = refl
list_said (Cnot c t ∷ gs) = ap (Cnot c t ∷◌) (list_said gs)
list_said (Phase i a ∷ gs) = let e : a / 256 * 256 + a % 256 ≡ a = omega arith in rw e (ap (Phase i a ∷◌) (list_said gs))
list_said (Inverter i ∷ gs) = ap (Inverter i ∷◌) (list_said gs)

module _ (f : List ℕ) (bytes : Bytes f) (good : GoodFile f) where
  pub file_said : said_gates (drop 8 f) ≡ gates_of f
  file_said = ap (λ (b : List ℕ). said_gates (drop 8 b)) (file_written f bytes good) ∙ ap said_gates (rest_written (version_of f) (wires_of f) (gates_of f)) ∙ list_said (gates_of f)

  -- behind the header, taken as far as the file goes
  pub rest_said : said_gates (take (length f - 8) (drop 8 f)) ≡ gates_of f
  rest_said = ap said_gates (take_all (length f - 8) (drop 8 f) (omega (arith, length-drop 8 f))) ∙ file_said

-- sound on ten wires, which every circuit's wires are among
module _ (f : List ℕ) (bytes : Bytes f) (good : GoodFile f) where
  pub said_sound : AllSound 10 (gates_of f)
  said_sound = all_wider (wires_of f) 10 (gates_of f) good.few (file_sound f bytes good)
