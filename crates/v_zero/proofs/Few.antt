-- Each signal has a bit, so a design of few bits has few signals.
use Rattle.std.proofs.Common.{◌≡◌, ℕ, zero, suc, ◌+◌, ◌*◌, ◌^◌, ◌≤◌, Bool, true, false, cond, List, [], ◌∷◌, ◌++◌, length, map, Option, Some, None, refl, sym, ap, subst, arith}
use Rattle.std.specs.Prelude.{if◌then◌else◌}
use Rattle.std.specs.Str.{bytes_eq}
use Rattle.std.proofs.lemmas.List.{length-append}
use Rattle.v_tree.specs.ExprRules.{total}
use Rattle.v_tree.specs.Names.{Name}
use Rattle.v_tree.specs.Scopes.{bits_of}
use Rattle.v_tree.specs.Rules.{instantiated, items_named, signal_bits, bits_below}
use Rattle.v_tree.specs.declared.items.VItem.{VItem}
use Rattle.v_tree.specs.declared.items.VItem.TheVariants as I
use Rattle.v_tree.specs.declared.items.VModule.{VModule}
use Rattle.v_tree.specs.declared.items.VRegRest.TheVariants as R
use Rattle.v_tree.specs.declared.items.VSignal.{VSignal}
use Rattle.v_tree.specs.declared.items.VSignal.TheVariants.{Input, Output, OutputReg, Wire, Reg}
use Rattle.v_meaning.specs.Modules.{Signal, signals, items_of, parts}
use Rattle.v_instances.specs.Walks.{child_signals, signals_from}
use Rattle.v_instances.proofs.Counting.{signals-are}
use Rattle.v_zero.specs.Laws.{FewSignals}

some-bit : (r : Option ℕ) → 1 ≤ bits_of r
some-bit None = omega arith
some-bit (Some left) = omega arith

some-bits : (r : Option ℕ) (left : ℕ) → 1 ≤ bits_of r * suc left
some-bits r left = let h = some-bit r in by (bits_of r) h
  where
    by : (w : ℕ) → 1 ≤ w → 1 ≤ w * suc left
    by w h = grind arith

has-bits : (s : VSignal) → 1 ≤ signal_bits (I.Signal s)
has-bits (Input r name) = some-bit r
has-bits (Output r name) = some-bit r
has-bits (OutputReg r name v) = some-bit r
has-bits (Wire r name) = some-bit r
has-bits (Reg r name None) = some-bit r
has-bits (Reg r name (Some (R.Memory left))) = some-bits r left
has-bits (Reg r name (Some (R.Initial v))) = some-bit r

own-few : (is : List VItem) → length (signals is) ≤ total (map signal_bits is)
own-few [] = omega arith
own-few (I.Signal s ∷ is) = let h = has-bits s in let g = own-few is in omega (arith, h, g)
own-few (I.Initial i ∷ is) = let g = own-few is in omega (arith, g)
own-few (I.Process p ∷ is) = let g = own-few is in omega (arith, g)
own-few (I.Function f ∷ is) = let g = own-few is in omega (arith, g)
own-few (I.Instance i ∷ is) = let g = own-few is in omega (arith, g)

children-few : (f : Name → List Signal) (bits : Name → ℕ) → ((name : Name) → length (f name) ≤ bits name) → (is : List VItem) → length (child_signals f is) ≤ total (map bits (instantiated is))
children-few f bits few [] = omega arith
children-few f bits few (I.Signal s ∷ is) = children-few f bits few is
children-few f bits few (I.Initial i ∷ is) = children-few f bits few is
children-few f bits few (I.Process p ∷ is) = children-few f bits few is
children-few f bits few (I.Function x ∷ is) = children-few f bits few is
children-few f bits few (I.Instance i ∷ is) =
    let h = few i.of in
    let g = children-few f bits few is in
    let e = length-append (f i.of) (child_signals f is) in
    omega (arith, h, g, e)

same-if : (b : Bool) (is js ks : List VItem) → js ≡ ks → cond b is js ≡ (if b then is else ks)
same-if true is js ks e = refl
same-if false is js ks e = e

same-items : (ms : List VModule) (name : Name) → items_of ms name ≡ items_named ms name
same-items [] name = refl
same-items (m ∷ ms) name = same-if (bytes_eq m.name name) m.items (items_of ms name) (items_named ms name) (same-items ms name)

few-below : (depth : ℕ) (ms : List VModule) (name : Name) → length (signals_from depth ms name) ≤ bits_below depth ms name
unfolding signals_from
few-below zero ms name = omega arith
few-below (suc depth) ms name =
    subst (λ is. length (signals is ++ child_signals (signals_from depth ms) is) ≤ bits_below (suc depth) ms name) (sym (same-items ms name))
    (both (items_named ms name) (own-few (items_named ms name)) (children-few (signals_from depth ms) (bits_below depth ms) (few-below depth ms) (items_named ms name)))
  where
    both : (is : List VItem) → length (signals is) ≤ total (map signal_bits is) → length (child_signals (signals_from depth ms) is) ≤ total (map (bits_below depth ms) (instantiated is))
        → length (signals is ++ child_signals (signals_from depth ms) is) ≤ total (map signal_bits is) + total (map (bits_below depth ms) (instantiated is))
    both is h g = let e = length-append (signals is) (child_signals (signals_from depth ms) is) in omega (arith, h, g, e)

pub few : FewSignals
few e top fits =
    let h = few-below (length e.modules) e.modules top in
    let k : length (parts e.modules top).signals ≡ length (signals_from (length e.modules) e.modules top) = ap (λ (ss : List Signal). length ss) (signals-are (length e.modules) e.modules 0 top) in
    small (bits_below (length e.modules) e.modules top) (length (parts e.modules top).signals) (omega (arith, h, k)) fits.bits
  where
    small : (bits n : ℕ) → n ≤ bits → bits ≤ 2 ^ 26 → n ≤ 2 ^ 32
    small bits n h g = omega (arith, h, g)

pub ruleset counting = (few)
