-- 02 §9, sentence by sentence, of any number and any gates that are left; nothing says how they are found.
use Rattle.std.specs.Prelude.{ℕ, zero, suc, ◌<◌, ◌≤◌, ◌≡◌, List, [], ◌∷◌, ◌++◌, length}
use Rattle.circuit.specs.declared.Gate.{Gate}
use Rattle.circuit.specs.declared.Gate.TheVariants.{Cnot, Phase, Inverter}

-- "the pair of equal neighbouring CNOTs that begins at" position p: what stands before it, the CNOT twice, what stands behind it
pub record Pair (gs : List Gate) (p : ℕ) : Type 0 where
  pub before : List Gate
  pub control : ℕ
  pub target : ℕ
  pub behind : List Gate
  pub position : length before ≡ p
  pub gates : gs ≡ before ++ Cnot control target ∷ Cnot control target ∷ behind

-- "Remove the pair .. that begins at the lowest position": hs is left of gs
pub record Step (gs hs : List Gate) : Type 0 where
  pub position : ℕ
  pub pair : Pair gs position
  pub lowest : (p : ℕ) → p < position → Pair gs p → ⊥
  pub left : hs ≡ pair.before ++ pair.behind

-- "repeat on what remains": n single steps
abbrev pub Steps : ℕ → List Gate → List Gate → Type 0
Steps zero gs hs = gs ≡ hs
Steps (suc n) gs hs = (between : List Gate) × Step gs between × Steps n between hs

-- of n pairs that went and of hs that is left, with so many removals allowed
pub record Cancelling (most : ℕ) (gs : List Gate) (n : ℕ) (hs : List Gate) : Type 0 where
  -- "That number is the number of such single steps"
  pub made : Steps n gs hs
  -- "The caller gives the most removals allowed"
  pub allowed : n ≤ most
  -- "if it is below the allowance no pair is left"
  pub none : n < most → (p : ℕ) → Pair hs p → ⊥

-- the gates that are no CNOTs, in order
unfoldable pub others_of : List Gate → List Gate
others_of [] = []
others_of (Cnot c t ∷ gs) = others_of gs
others_of (Phase i a ∷ gs) = Phase i a ∷ others_of gs
others_of (Inverter i ∷ gs) = Inverter i ∷ others_of gs
