-- Rounds find the calls that lead to a routine.
use Rattle.std.proofs.Common.{◌≡◌, ℕ, zero, suc, Bool, true, false, ◌&&◌, ◌||◌, ◌==◌, cond, filter, List, [], ◌∷◌, refl, sym, ap, ◌∙◌}
use Rattle.std.proofs.Math.Bool.{and-true, and-false, or-false}
use Rattle.std.specs.List.{list_any}
use Rattle.call_circles.specs.declared.calls.Call.{Call}
use Rattle.call_circles.specs.Calls.{is_from, goes_to, reaches}
use Rattle.call_circles.specs.Rounds.{stands_in, arrives, rounds}

kept : (b : Bool) (r : ℕ) (c : Call) (ds : List Call) → list_any (stands_in r) (cond b (c ∷ ds) ds) ≡ ((is_from c.from r && b) || list_any (stands_in r) ds)
kept true r c ds = ap (λ t. t || list_any (stands_in r) ds) (sym (and-true (is_from c.from r)))
kept false r c ds = ap (λ t. t || list_any (stands_in r) ds) (sym (and-false (is_from c.from r)))

any_kept : (f : ℕ → Bool) (test : Call → Bool) (r : ℕ) (cs : List Call) → ((c : Call) → test c ≡ f c.to) → list_any (stands_in r) (filter test cs) ≡ list_any (goes_to f r) cs
any_kept f test r [] same = refl
any_kept f test r (c ∷ cs) same =
    kept (test c) r c (filter test cs)
    ∙ ap (λ b. (is_from c.from r && b) || list_any (stands_in r) (filter test cs)) (same c)
    ∙ ap (λ b. (is_from c.from r && f c.to) || b) (any_kept f test r cs same)

pub rounds-reach : (cs : List Call) (k r g : ℕ) → ((r == g) || list_any (stands_in r) (rounds cs k g)) ≡ reaches cs k r g
rounds-reach cs zero r g = or-false (r == g)
rounds-reach cs (suc k) r g =
    ap (λ b. (r == g) || b) (any_kept (λ next. reaches cs k next g) (arrives (rounds cs k g) g) r cs (λ c. rounds-reach cs k c.to g))
