-- 01, "no second answer would satisfy it", handed on: where one answer and one slice meet an operation's contract, one row of numbers and one slice meet that of its C function.
use Prim.Native.Nat.{ℕ}
use mathlib.Core.Path.{◌≡◌, sym, ap, ◌∙◌}
use mathlib.Core.List.{List}
use Rattle.refusal.specs.Contract.{Said}
use Rattle.c_interface.specs.Numbers.{numbers_of, Tells, TellsAnswer}

pub tells_one : {Answer Entry : Type 0} (Contract : Answer → List Entry → Type 0) (said : Answer → Said)
    → ((a b : Answer) (x y : List Entry) → Contract a x → Contract b y → (a ≡ b) × (x ≡ y))
    → (ns ms : List ℕ) (x y : List Entry) → Tells Contract said ns x → Tells Contract said ms y → (ns ≡ ms) × (x ≡ y)
tells_one Contract said one ns ms x y p q =
    let r = one p.answer q.answer x y p.meets q.meets in
    (p.tells ∙ ap (λ a. numbers_of (said a)) r.0 ∙ sym q.tells, r.1)

pub tells_answer_one : {Answer : Type 0} (Contract : Answer → Type 0) (said : Answer → Said) → ((a b : Answer) → Contract a → Contract b → a ≡ b)
    → (ns ms : List ℕ) → TellsAnswer Contract said ns → TellsAnswer Contract said ms → ns ≡ ms
tells_answer_one Contract said one ns ms p q = p.tells ∙ ap (λ a. numbers_of (said a)) (one p.answer q.answer p.meets q.meets) ∙ sym q.tells
