-- Loops that don't end, in a loop: the one at the least token is named, whichever is met first; and too many statements beside one.
use Rattle.std.proofs.Common.{◌≡◌, ℕ, true, [], ◌∷◌, ◌++◌, Option, Some, None, refl, ap, ◌∙◌}
use Rattle.sv_types.specs.declared.expression.Expr.{Expr}
use Rattle.sv_types.specs.Runs.{most_turns}
use Rattle.sv_types.specs.Surroundings.{Sight}
use Rattle.design_breaks.specs.declared.Unrolled.{Unrolled}
use Rattle.design_breaks.specs.Unrolling.{Control, Unrolls, counted, in_turn, onward, found, looping, all_turns, turns, lasting, given, goes_on, too_long_at, unless_found, one_of}
use Rattle.design_breaks.specs.Breaks.{at_each, endless_at, is_too_many, least_of}

abbrev so_far : ℕ → Option ℕ → Unrolled
so_far n at = record { left = Some n; endless = at }

-- a loop whose turns don't end
record IsEndless (c : Control) (h : Sight) : Type 0 where
  first : too_long_at c.first h ≡ None
  turns : lasting most_turns c (given c c.first h) ≡ Some c.at

is-found : (c : Control) (body : Unrolls) (h : Sight) → IsEndless c h → (u : Unrolled) → all_turns c body h u ≡ found (Some c.at) u
is-found c body h e u =
    ap (λ o. unless_found o (λ j v. unless_found (lasting most_turns c (given c c.first j)) (λ i w. turns most_turns c body (given c c.first i) w) j v) h u) e.first
    ∙ ap (λ o. unless_found o (λ i w. turns most_turns c body (given c c.first i) w) h u) e.turns

-- a `for` at this token
abbrev loop : ℕ → ℕ → Expr → Expr → Expr → Control
loop at variable first test step = record { at = at; variable = variable; first = first; test = test; step = step }

module _ (i : Control) (a b : ℕ) (f f' t t' s s' : Expr) (inner inner' : Unrolls) (h : Sight) where
  abbrev j : Control
  j = loop 20 a f t s

  abbrev k : Control
  k = loop 30 b f' t' s'

  abbrev of_j : Unrolls
  of_j = looping true j inner

  abbrev of_k : Unrolls
  of_k = looping true k inner'

  abbrev body : Unrolls
  body = in_turn (of_j ∷ of_k ∷ [])

  abbrev next : Sight
  next = given i i.step h

  -- In the first turn of `for i { for j ..; for k .. }` nothing stands in the loop of j and that of k doesn't end, in the second one that of j doesn't.
  least-is-named : (n : ℕ) → goes_on i h ≡ true → goes_on i next ≡ true → of_j h (so_far n None) ≡ so_far n None → IsEndless k h → IsEndless j next
      → turns 2 i body h (so_far n None) ≡ so_far n (Some 20)
  unfolding turns
  least-is-named n goes again none of-k of-j =
      ap (λ x. one_of x (λ y. turns 1 i body (given i i.step y) (onward body y (so_far n None))) (λ y. so_far n None) h) goes
      ∙ ap (λ x. one_of x (λ y. onward body y (onward body h (so_far n None))) (λ y. onward body h (so_far n None)) next) again
      ∙ ap (λ u. onward body next (onward of_k h u)) none
      ∙ ap (λ u. onward body next u) (is-found k inner' h of-k (so_far n None))
      ∙ ap (λ u. onward of_k next u) (is-found j inner next of-j (so_far n (Some 30)))

  -- and nothing more is said of a loop behind such a token
  none-behind : (g : Sight) (n : ℕ) → of_k g (so_far n (Some 20)) ≡ so_far n (Some 20)
  none-behind g n = refl

-- A statement too many behind a loop that doesn't end is said at the process, which stands before it.
module _ (f : Unrolls) (h : Sight) where
  abbrev one_more : Unrolled
  one_more = counted f h (so_far 0 (Some 20))

  is-too-many : is_too_many one_more ≡ true
  is-too-many = refl

  first-break : least_of (at_each 1 608 (endless_at one_more) ++ at_each 1 703 (5 ∷ [])) ≡ Some (record { instance = 1; at = 5; rule = 703 })
  first-break = refl
