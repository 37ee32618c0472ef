-- Writes that are put over other signals.
use Rattle.std.proofs.Common.{◌≡◌, ℕ, zero, suc, ◌-◌, ◌^◌, ◌<◌, ◌≤◌, ◌==◌, ◌&&◌, Bool, true, false, cond, min, List, [], ◌∷◌, length, get_or, set, Option, Some, None, refl, arith, ap, sym, ◌∙◌}
use Rattle.std.specs.Prelude.{nat_le, nat_lt}
use Rattle.std.proofs.Math.Path.{fun_ext}
use Rattle.std.proofs.lemmas.List.{get_or-set_other}
use Rattle.std.proofs.lemmas.Grind.{get_or-set_at}
use Rattle.std.proofs.lemmas.Bool.Decides.{nat_tests}
use Rattle.b4_core.specs.declared.bit.Bit4.{Bit4}
use Rattle.b4_core.specs.declared.bit.Bit4.TheVariants.{X}
use Rattle.row_machine.specs.Valuation.{Place, Valuation, Changes, put, changed}
use Rattle.row_machine.specs.Steps.{later_or, then_changes}
use Rattle.picks.specs.Windows.{Window, within, written}
use Rattle.v_meaning.specs.Scopes.{is_signal}
use Rattle.v_meaning.specs.Machine.{to_signals}
use Rattle.v_eval.specs.Holding.{slot_of, holding}
use Rattle.v_run.specs.declared.pieces.Piece.{Piece}
use Rattle.v_run.specs.Changes.{change_of, changes_of, widths, Within}
use Rattle.v_run.specs.Writes.{new_bit, VectorWritten, InsideWritten}
use Rattle.v_run.proofs.Changed.{put-then}

both-tests : (low k high len h : ℕ) → h ≡ min high len → (nat_le low k && nat_lt k h) ≡ ((nat_le low k && nat_lt k high) && nat_lt k len)
both-tests low k high len h is = by (nat_le low k) (nat_lt k high) (nat_lt k len) refl refl
  where
    by : (a b c : Bool) → nat_lt k high ≡ b → nat_lt k len ≡ c → (a && nat_lt k h) ≡ ((a && b) && c)
    by false b c e f = refl
    by true true true e f = grind (arith, nat_tests)
    by true true false e f = grind (arith, nat_tests)
    by true false c e f = grind (arith, nat_tests)

pub inside-window : (old new bits : List Bit4) (p : Window) (h : ℕ) → h ≡ min p.high (length old) → VectorWritten old new (record { shift = p.shift; low = p.low; high = h }) bits → InsideWritten old new p bits
inside-window old new bits p h is w = record {
  long = w.long;
  now = λ k. w.now k ∙ ap (λ b. cond b (new_bit p bits k) (get_or old k X)) (both-tests p.low k p.high (length old) h is);
}

pub ruleset inside = (inside-window)

-- slots that are as wide as before
widths-set : (to : List (List Bit4)) (n : ℕ) (s : List Bit4) → length s ≡ length (slot_of to n) → widths (set to n s) ≡ widths to
widths-set [] n s same = refl
widths-set (v ∷ vs) zero s same = ap (λ k. k ∷ widths vs) same
widths-set (v ∷ vs) (suc n) s same = ap (λ ks. length v ∷ ks) (widths-set vs n s same)

pub width-at : (to : List (List Bit4)) (n : ℕ) → get_or (widths to) n 0 ≡ length (slot_of to n)
width-at [] n = refl
width-at (v ∷ vs) zero = refl
width-at (v ∷ vs) (suc n) = width-at vs n

-- the slot that is there
pub slot-there : (to : List (List Bit4)) (n : ℕ) (x : List Bit4) → n < length to → get_or to n x ≡ slot_of to n
slot-there [] n x h = absurd (omega (arith, h))
slot-there (v ∷ vs) zero x h = refl
slot-there (v ∷ vs) (suc n) x h = slot-there vs n x (omega (arith, h))

no-slot : (to : List (List Bit4)) (n : ℕ) → length to ≤ n → length (slot_of to n) ≡ 0
no-slot [] n h = refl
no-slot (v ∷ vs) zero h = absurd (omega (arith, h))
no-slot (v ∷ vs) (suc n) h = no-slot vs n (omega (arith, h))

-- nothing of signals is changed
pub none-put : (c : Changes) (v : Valuation) → ((q : Place) → is_signal q.signal ≡ true → c q ≡ None) → v ≡ put (to_signals c) v
none-put c v none = fun_ext (λ q. by q (is_signal q.signal) refl)
  where
    by : (q : Place) (b : Bool) → is_signal q.signal ≡ b → v q ≡ changed (cond (is_signal q.signal) (c q) None) (v q)
    by q true is = sym (ap (λ b. changed (cond b (c q) None) (v q)) is ∙ ap (λ o. changed o (v q)) (none q is))
    by q false is = sym (ap (λ b. changed (cond b (c q) None) (v q)) is)

written-elsewhere : (n : ℕ) (p : Window) (bits : List Bit4) (q : Place) → (q.signal ≡ n → ⊥) → written n p bits q ≡ None
written-elsewhere n p bits q apart = by (q.signal == n) refl
  where
    by : (c : Bool) → (q.signal == n) ≡ c → written n p bits q ≡ None
    by true same = absurd (apart (grind (arith, nat_tests)))
    by false is = ap (λ b. cond (b && within p q.bit) (Some (new_bit p bits q.bit)) None) is

pub local-put : (n : ℕ) (p : Window) (bits : List Bit4) (v : Valuation) → 2 ^ 32 ≤ n → v ≡ put (to_signals (written n p bits)) v
local-put n p bits v high = none-put (written n p bits) v (λ q is. written-elsewhere n p bits q (λ e. let f : is_signal q.signal ≡ false = grind (arith, nat_tests) in let g : true ≡ false = sym is ∙ f in absurd (cc)))

pub absent-put : (to : List (List Bit4)) (n : ℕ) (p : Window) (bits : List Bit4) → length to ≤ n → Within (widths to) (written n p bits) → holding to [] [] ≡ put (to_signals (written n p bits)) (holding to [] [])
absent-put to n p bits behind inside = none-put (written n p bits) (holding to [] []) (λ q is. by q is (q.signal == n) refl)
  where
    by : (q : Place) → is_signal q.signal ≡ true → (c : Bool) → (q.signal == n) ≡ c → written n p bits q ≡ None
    by q is true same =
        let e : q.signal ≡ n = grind (arith, nat_tests) in
        let none : get_or (widths to) q.signal 0 ≡ 0 = width-at to q.signal ∙ no-slot to q.signal (omega (arith, behind, e)) in
        inside q is (omega (arith, none))
    by q is false apart = written-elsewhere n p bits q (λ e. let g : (q.signal == n) ≡ true = grind (arith, nat_tests) in let f : true ≡ false = sym g ∙ apart in absurd (cc))

-- a write of a signal that is there
bit-put : (old new : List Bit4) (p : Window) (bits : List Bit4) (k : ℕ) → InsideWritten old new p bits → (length old ≤ k → cond (within p k) (Some (new_bit p bits k)) None ≡ None)
    → get_or new k X ≡ changed (cond (within p k) (Some (new_bit p bits k)) None) (get_or old k X)
bit-put old new p bits k w none = w.now k ∙ by (nat_lt k (length old)) refl
  where
    there : (b : Bool) (x y : Bit4) → cond (b && true) x y ≡ changed (cond b (Some x) None) y
    there true x y = refl
    there false x y = refl

    gone : (b : Bool) (x y : Bit4) → cond (b && false) x y ≡ y
    gone true x y = refl
    gone false x y = refl

    by : (c : Bool) → nat_lt k (length old) ≡ c → cond (within p k && nat_lt k (length old)) (new_bit p bits k) (get_or old k X) ≡ changed (cond (within p k) (Some (new_bit p bits k)) None) (get_or old k X)
    by true is = ap (λ c. cond (within p k && c) (new_bit p bits k) (get_or old k X)) is ∙ there (within p k) (new_bit p bits k) (get_or old k X)
    by false is =
        let behind : length old ≤ k = grind (arith, nat_tests) in
        ap (λ c. cond (within p k && c) (new_bit p bits k) (get_or old k X)) is ∙ gone (within p k) (new_bit p bits k) (get_or old k X) ∙ sym (ap (λ o. changed o (get_or old k X)) (none behind))

signal-put : (to : List (List Bit4)) (n : ℕ) (s : List Bit4) (p : Window) (bits : List Bit4) → n < length to → InsideWritten (slot_of to n) s p bits → Within (widths to) (written n p bits) → (q : Place) → is_signal q.signal ≡ true
    → get_or (slot_of (set to n s) q.signal) q.bit X ≡ changed (written n p bits q) (get_or (slot_of to q.signal) q.bit X)
signal-put to n s p bits there w inside q is = by (q.signal == n) refl
  where
    by : (c : Bool) → (q.signal == n) ≡ c → get_or (slot_of (set to n s) q.signal) q.bit X ≡ changed (written n p bits q) (get_or (slot_of to q.signal) q.bit X)
    by true same =
        let e : q.signal ≡ n = grind (arith, nat_tests) in
        let at : cond ((q.signal == n) && within p q.bit) (Some (new_bit p bits q.bit)) None ≡ cond (within p q.bit) (Some (new_bit p bits q.bit)) None = ap (λ b. cond (b && within p q.bit) (Some (new_bit p bits q.bit)) None) same in
        let wide = width-at to q.signal ∙ ap (λ m. length (slot_of to m)) e in
        ap (λ x. get_or x q.bit X) (get_or-set_at to n q.signal s [] e there)
        ∙ bit-put (slot_of to n) s p bits q.bit w (λ h. sym at ∙ inside q is (omega (arith, h, wide)))
        ∙ ap (λ o. changed o (get_or (slot_of to n) q.bit X)) (sym at) ∙ ap (λ m. changed (written n p bits q) (get_or (slot_of to m) q.bit X)) (sym e)
    by false apart =
        let no : (q.signal ≡ n → ⊥) = λ e. (let g : (q.signal == n) ≡ true = grind (arith, nat_tests) in let f : true ≡ false = sym g ∙ apart in absurd (cc)) in
        ap (λ x. get_or x q.bit X) (get_or-set_other to n q.signal s [] no) ∙ ap (λ o. changed o (get_or (slot_of to q.signal) q.bit X)) (sym (written-elsewhere n p bits q no))

pub present-put : (to : List (List Bit4)) (n : ℕ) (s : List Bit4) (p : Window) (bits : List Bit4) → n < length to → InsideWritten (slot_of to n) s p bits → Within (widths to) (written n p bits)
    → holding (set to n s) [] [] ≡ put (to_signals (written n p bits)) (holding to [] [])
present-put to n s p bits there w inside = fun_ext (λ q. by q (is_signal q.signal) refl)
  where
    by : (q : Place) (b : Bool) → is_signal q.signal ≡ b → holding (set to n s) [] [] q ≡ put (to_signals (written n p bits)) (holding to [] []) q
    by q true is =
        ap (λ b. get_or (cond b (slot_of (set to n s) q.signal) (slot_of [] (q.signal - 2 ^ 32))) q.bit X) is ∙ signal-put to n s p bits there w inside q is
        ∙ sym (ap (λ b. changed (cond b (written n p bits q) None) (get_or (cond b (slot_of to q.signal) (slot_of [] (q.signal - 2 ^ 32))) q.bit X)) is)
    by q false is =
        ap (λ b. get_or (cond b (slot_of (set to n s) q.signal) (slot_of [] (q.signal - 2 ^ 32))) q.bit X) is
        ∙ sym (ap (λ b. changed (cond b (written n p bits q) None) (get_or (cond b (slot_of to q.signal) (slot_of [] (q.signal - 2 ^ 32))) q.bit X)) is)

pub widths-put : (to new : List (List Bit4)) (n : ℕ) (s : List Bit4) (p : Window) (bits : List Bit4) → new ≡ set to n s → InsideWritten (slot_of to n) s p bits → widths new ≡ widths to
widths-put to new n s p bits is w = ap widths is ∙ widths-set to n s w.long

-- writes one by one
later-both : (a b : Option Bit4) → later_or b a ≡ None → a ≡ None
later-both a None h = h
later-both a (Some x) h = absurd (cc)

later-second : (a b : Option Bit4) → later_or b a ≡ None → b ≡ None
later-second a None h = refl
later-second a (Some x) h = absurd (cc)

pub within-first : (ws : List ℕ) (p : Piece) (ps : List Piece) → Within ws (changes_of (p ∷ ps)) → Within ws (change_of p)
within-first ws p ps inside q is h = later-both (change_of p q) (changes_of ps q) (inside q is h)

pub within-rest : (ws : List ℕ) (p : Piece) (ps : List Piece) → Within ws (changes_of (p ∷ ps)) → Within ws (changes_of ps)
within-rest ws p ps inside q is h = later-second (change_of p q) (changes_of ps q) (inside q is h)

signals-then : (a b : Changes) → to_signals (then_changes a b) ≡ then_changes (to_signals a) (to_signals b)
signals-then a b = fun_ext (λ q. by q (is_signal q.signal) refl)
  where
    by : (q : Place) (c : Bool) → is_signal q.signal ≡ c → to_signals (then_changes a b) q ≡ then_changes (to_signals a) (to_signals b) q
    by q true is = ap (λ c. cond c (later_or (b q) (a q)) None) is ∙ sym (ap (λ c. later_or (cond c (b q) None) (cond c (a q) None)) is)
    by q false is = ap (λ c. cond c (later_or (b q) (a q)) None) is ∙ sym (ap (λ c. later_or (cond c (b q) None) (cond c (a q) None)) is)

pub over-next : (p : Piece) (ps : List Piece) (now new all : Valuation) → new ≡ put (to_signals (change_of p)) now → put (to_signals (changes_of (p ∷ ps))) now ≡ all → put (to_signals (changes_of ps)) new ≡ all
over-next p ps now new all is before =
    ap (put (to_signals (changes_of ps))) is ∙ sym (put-then (to_signals (change_of p)) (to_signals (changes_of ps)) now)
    ∙ sym (ap (λ c. put c now) (signals-then (change_of p) (changes_of ps))) ∙ before
