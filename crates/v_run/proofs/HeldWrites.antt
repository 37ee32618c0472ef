-- Signals and locals that are written hold what the definition of a write makes of a valuation.
use Rattle.std.proofs.Common.{◌≡◌, ℕ, suc, ◌+◌, ◌-◌, ◌^◌, ◌<◌, ◌≤◌, ◌==◌, ◌&&◌, Bool, true, false, cond, List, [], ◌∷◌, ◌++◌, length, get_or, set, Some, None, refl, arith, ap, sym, ◌∙◌, subst}
use Rattle.std.proofs.Math.Path.{fun_ext}
use Rattle.std.proofs.lemmas.List.{get_or-set_other, length-append}
use Rattle.std.proofs.lemmas.Grind.{get_or-set_at}
use Rattle.std.proofs.lemmas.Bool.Decides.{nat_tests}
use Rattle.b4_core.specs.declared.bit.Bit4.{Bit4}
use Rattle.b4_core.specs.declared.bit.Bit4.TheVariants.{X}
use Rattle.row_machine.specs.Valuation.{Place, put, changed}
use Rattle.picks.specs.Windows.{Window, within, written}
use Rattle.v_meaning.specs.Scopes.{is_signal, local_number}
use Rattle.v_eval.specs.declared.held.Slot.{Slot}
use Rattle.v_eval.specs.Holding.{slot_of, signal_bits, holding}
use Rattle.v_run.specs.Writes.{new_bit, SlotWritten, SlotsWritten, SignalWritten, place, IsPlace}

there : (b : Bool) (new old : Bit4) → cond b new old ≡ changed (cond b (Some new) None) old
there true new old = refl
there false new old = refl

-- a bit of a slot after a write
slot-bit : (old : List (List Bit4)) (n : ℕ) (s : List Bit4) (p : Window) (bits : List Bit4) → n < length old → SlotWritten (slot_of old n) s p bits → (m k : ℕ)
    → get_or (slot_of (set old n s) m) k X ≡ changed (cond ((m == n) && within p k) (Some (new_bit p bits k)) None) (get_or (slot_of old m) k X)
slot-bit old n s p bits inside w m k = by (m == n) refl
  where
    by : (c : Bool) → (m == n) ≡ c → get_or (slot_of (set old n s) m) k X ≡ changed (cond ((m == n) && within p k) (Some (new_bit p bits k)) None) (get_or (slot_of old m) k X)
    by true same =
        let e : m ≡ n = grind (arith, nat_tests) in
        ap (λ x. get_or x k X) (get_or-set_at old n m s [] e inside) ∙ w.now k
        ∙ there (within p k) (new_bit p bits k) (get_or (slot_of old n) k X)
        ∙ ap (λ b. changed (cond (b && within p k) (Some (new_bit p bits k)) None) (get_or (slot_of old n) k X)) (sym same)
        ∙ ap (λ j. changed (cond ((m == n) && within p k) (Some (new_bit p bits k)) None) (get_or (slot_of old j) k X)) (sym e)
    by false apart =
        let e : (m ≡ n → ⊥) = λ same. (let g : (m == n) ≡ true = grind (arith, nat_tests) in let f : true ≡ false = sym g ∙ apart in absurd (cc)) in
        ap (λ x. get_or x k X) (get_or-set_other old n m s [] e)
        ∙ ap (λ b. changed (cond (b && within p k) (Some (new_bit p bits k)) None) (get_or (slot_of old m) k X)) (sym apart)

other-place : (n m : ℕ) (p : Window) (bits : List Bit4) (k : ℕ) (old : Bit4) → (m ≡ n → ⊥) → old ≡ changed (cond ((m == n) && within p k) (Some (new_bit p bits k)) None) old
other-place n m p bits k old apart = by (m == n) refl
  where
    by : (c : Bool) → (m == n) ≡ c → old ≡ changed (cond ((m == n) && within p k) (Some (new_bit p bits k)) None) old
    by true same = let e : m ≡ n = grind (arith, nat_tests) in absurd (apart e)
    by false is = ap (λ b. changed (cond (b && within p k) (Some (new_bit p bits k)) None) old) (sym is)

-- a bit of a signal after a write
signal-bit : (signals : List (List Bit4)) (old new : List Slot) (n : ℕ) (p : Window) (bits : List Bit4) → SignalWritten signals old new n p bits → (m k : ℕ)
    → get_or (signal_bits signals new m) k X ≡ changed (cond ((m == n) && within p k) (Some (new_bit p bits k)) None) (get_or (signal_bits signals old m) k X)
signal-bit signals old new n p bits w m k = ap (λ x. get_or x k X) (w.now m) ∙ by (m == n) refl
  where
    by : (c : Bool) → (m == n) ≡ c → get_or (cond (m == n) w.slot (signal_bits signals old m)) k X ≡ changed (cond ((m == n) && within p k) (Some (new_bit p bits k)) None) (get_or (signal_bits signals old m) k X)
    by true same =
        let e : m ≡ n = grind (arith, nat_tests) in
        ap (λ b. get_or (cond b w.slot (signal_bits signals old m)) k X) same ∙ w.written.now k
        ∙ there (within p k) (new_bit p bits k) (get_or (signal_bits signals old n) k X)
        ∙ ap (λ b. changed (cond (b && within p k) (Some (new_bit p bits k)) None) (get_or (signal_bits signals old n) k X)) (sym same)
        ∙ ap (λ j. changed (cond ((m == n) && within p k) (Some (new_bit p bits k)) None) (get_or (signal_bits signals old j) k X)) (sym e)
    by false apart =
        ap (λ b. get_or (cond b w.slot (signal_bits signals old m)) k X) apart
        ∙ ap (λ b. changed (cond (b && within p k) (Some (new_bit p bits k)) None) (get_or (signal_bits signals old m) k X)) (sym apart)

signal-at : (signals : List (List Bit4)) (old new : List Slot) (locals : List (List Bit4)) (n : ℕ) (p : Window) (bits : List Bit4) → n < 2 ^ 32 → SignalWritten signals old new n p bits → (q : Place)
    → holding signals new locals q ≡ put (written n p bits) (holding signals old locals) q
signal-at signals old new locals n p bits low w q = by (is_signal q.signal) refl
  where
    by : (c : Bool) → is_signal q.signal ≡ c → holding signals new locals q ≡ put (written n p bits) (holding signals old locals) q
    by true is =
        let other = slot_of locals (q.signal - 2 ^ 32) in
        ap (λ b. get_or (cond b (signal_bits signals new q.signal) other) q.bit X) is ∙ signal-bit signals old new n p bits w q.signal q.bit
        ∙ sym (ap (λ b. changed (written n p bits q) (get_or (cond b (signal_bits signals old q.signal) other) q.bit X)) is)
    by false is =
        let other = slot_of locals (q.signal - 2 ^ 32) in
        let apart : (q.signal ≡ n → ⊥) = λ same. (let g : is_signal q.signal ≡ true = grind (arith, nat_tests) in let f : true ≡ false = sym g ∙ is in absurd (cc)) in
        ap (λ b. get_or (cond b (signal_bits signals new q.signal) other) q.bit X) is ∙ other-place n q.signal p bits q.bit (get_or other q.bit X) apart
        ∙ sym (ap (λ b. changed (written n p bits q) (get_or (cond b (signal_bits signals old q.signal) other) q.bit X)) is)

shifted : (m n : ℕ) → 2 ^ 32 ≤ m → (m - 2 ^ 32 == n) ≡ (m == local_number n)
shifted m n h = by (m - 2 ^ 32 == n) (m == local_number n) refl refl
  where
    by : (b c : Bool) → (m - 2 ^ 32 == n) ≡ b → (m == local_number n) ≡ c → b ≡ c
    by true true e f = refl
    by false false e f = refl
    by true false e f = let g : (m == local_number n) ≡ true = grind (arith, nat_tests) in sym g ∙ f
    by false true e f = let g : (m - 2 ^ 32 == n) ≡ true = grind (arith, nat_tests) in sym e ∙ g

local-at : (signals : List (List Bit4)) (over : List Slot) (old : List (List Bit4)) (n : ℕ) (s : List Bit4) (p : Window) (bits : List Bit4) → n < length old → SlotWritten (slot_of old n) s p bits → (q : Place)
    → holding signals over (set old n s) q ≡ put (written (local_number n) p bits) (holding signals over old) q
local-at signals over old n s p bits inside w q = by (is_signal q.signal) refl
  where
    by : (c : Bool) → is_signal q.signal ≡ c → holding signals over (set old n s) q ≡ put (written (local_number n) p bits) (holding signals over old) q
    by true is =
        let other = signal_bits signals over q.signal in
        let apart : (q.signal ≡ local_number n → ⊥) = λ same. (let g : is_signal q.signal ≡ false = grind (arith, nat_tests) in let f : true ≡ false = sym is ∙ g in absurd (cc)) in
        ap (λ b. get_or (cond b other (slot_of (set old n s) (q.signal - 2 ^ 32))) q.bit X) is ∙ other-place (local_number n) q.signal p bits q.bit (get_or other q.bit X) apart
        ∙ sym (ap (λ b. changed (written (local_number n) p bits q) (get_or (cond b other (slot_of old (q.signal - 2 ^ 32))) q.bit X)) is)
    by false is =
        let other = signal_bits signals over q.signal in
        let high : 2 ^ 32 ≤ q.signal = grind (arith, nat_tests) in
        let same : (q.signal - 2 ^ 32 == n) ≡ (q.signal == local_number n) = shifted q.signal n high in
        ap (λ b. get_or (cond b other (slot_of (set old n s) (q.signal - 2 ^ 32))) q.bit X) is ∙ slot-bit old n s p bits inside w (q.signal - 2 ^ 32) q.bit
        ∙ ap (λ c. changed (cond (c && within p q.bit) (Some (new_bit p bits q.bit)) None) (get_or (slot_of old (q.signal - 2 ^ 32)) q.bit X)) same
        ∙ sym (ap (λ b. changed (written (local_number n) p bits q) (get_or (cond b other (slot_of old (q.signal - 2 ^ 32))) q.bit X)) is)

same-locals : (signals : List (List Bit4)) (over : List Slot) (a b : List (List Bit4)) → ((m : ℕ) → slot_of a m ≡ slot_of b m) → holding signals over a ≡ holding signals over b
same-locals signals over a b same = fun_ext (λ q. ap (λ x. get_or (cond (is_signal q.signal) (signal_bits signals over q.signal) x) q.bit X) (same (q.signal - 2 ^ 32)))

pub signal-written : (signals : List (List Bit4)) (old new : List Slot) (locals : List (List Bit4)) (n : ℕ) (p : Window) (bits : List Bit4) → n < 2 ^ 32 → SignalWritten signals old new n p bits
    → holding signals new locals ≡ put (written n p bits) (holding signals old locals)
signal-written signals old new locals n p bits low w = fun_ext (signal-at signals old new locals n p bits low w)

pub local-written : (signals : List (List Bit4)) (over : List Slot) (old new : List (List Bit4)) (n m : ℕ) (p : Window) (bits : List Bit4) → m ≡ local_number n → SlotsWritten old new n p bits
    → holding signals over new ≡ put (written m p bits) (holding signals over old)
local-written signals over old new n m p bits is w =
    ap (holding signals over) w.is ∙ fun_ext (local-at signals over w.middle n w.slot p bits w.there w.written) ∙ ap (put (written (local_number n) p bits)) (same-locals signals over w.middle old w.same)
    ∙ ap (λ k. put (written k p bits) (holding signals over old)) (sym is)

-- where signals stand that are written
not-equal : (m n : ℕ) → (m == n) ≡ false → m ≡ n → ⊥
not-equal m n apart same = let g : (m == n) ≡ true = grind (arith, nat_tests) in let f : true ≡ false = sym g ∙ apart in absurd (cc)

apart-from : (m n : ℕ) → (m ≡ n → ⊥) → (m == n) ≡ false
apart-from m n differ = by (m == n) refl
  where
    by : (c : Bool) → (m == n) ≡ c → (m == n) ≡ false
    by true is = absurd (differ (grind (arith, nat_tests)))
    by false is = is

pub bits-pushed : (signals : List (List Bit4)) (over : List Slot) (x : Slot) → x.bits ≡ slot_of signals x.number → (m : ℕ) → signal_bits signals (over ++ x ∷ []) m ≡ signal_bits signals over m
bits-pushed signals [] x is m = by (x.number == m) refl
  where
    by : (c : Bool) → (x.number == m) ≡ c → cond (x.number == m) x.bits (slot_of signals m) ≡ slot_of signals m
    by true same = ap (λ b. cond b x.bits (slot_of signals m)) same ∙ is ∙ ap (slot_of signals) (grind (arith, nat_tests))
    by false apart = ap (λ b. cond b x.bits (slot_of signals m)) apart
bits-pushed signals (o ∷ os) x is m = ap (cond (o.number == m) o.bits) (bits-pushed signals os x is m)

place-more : (os : List Slot) (x : Slot) (n : ℕ) → x.number ≡ n → length os ≤ place os n → place (os ++ x ∷ []) n ≡ place os n
place-more [] x n named h = ap (λ b. cond b 0 1) (let g : (x.number == n) ≡ true = grind (arith, nat_tests) in g)
place-more (o ∷ os) x n named h = by (place-more os x n named) (o.number == n) refl
  where
    by : (length os ≤ place os n → place (os ++ x ∷ []) n ≡ place os n) → (c : Bool) → (o.number == n) ≡ c → cond (o.number == n) 0 (suc (place (os ++ x ∷ []) n)) ≡ cond (o.number == n) 0 (suc (place os n))
    by rest true same = absurd (let z : place (o ∷ os) n ≡ 0 = ap (λ b. cond b 0 (suc (place os n))) same in omega (arith, h, z))
    by rest false apart = let z : place (o ∷ os) n ≡ suc (place os n) = ap (λ b. cond b 0 (suc (place os n))) apart in ap (λ j. cond (o.number == n) 0 (suc j)) (rest (omega (arith, h, z)))

place-least : (os : List Slot) (n : ℕ) → place os n ≤ length os
place-least [] n = omega arith
place-least (o ∷ os) n = by (place-least os n) (o.number == n) refl
  where
    by : place os n ≤ length os → (c : Bool) → (o.number == n) ≡ c → cond (o.number == n) 0 (suc (place os n)) ≤ suc (length os)
    by rest true same = let z : place (o ∷ os) n ≡ 0 = ap (λ b. cond b 0 (suc (place os n))) same in omega (arith, z)
    by rest false apart = let z : place (o ∷ os) n ≡ suc (place os n) = ap (λ b. cond b 0 (suc (place os n))) apart in omega (arith, z, rest)

pub place-pushed : (over new : List Slot) (x : Slot) (n k : ℕ) → new ≡ over ++ x ∷ [] → x.number ≡ n → k ≡ place over n → length over ≤ k → IsPlace new n k
place-pushed over new x n k more named is behind =
    let far : length over ≤ place over n = subst (λ j. length over ≤ j) is behind in
    record {
      is = is ∙ sym (place-more over x n named far) ∙ ap (λ os. place os n) (sym more);
      there = let long : length new ≡ length over + 1 = ap length more ∙ length-append over (x ∷ []) in omega (arith, is, long, place-least over n);
    }

pub ruleset placing = (bits-pushed, place-pushed)

-- the signal with a number holds other bits
bits-set : (signals : List (List Bit4)) (over : List Slot) (n : ℕ) (y : Slot) → y.number ≡ n → place over n < length over → (m : ℕ) → signal_bits signals (set over (place over n) y) m ≡ cond (m == n) y.bits (signal_bits signals over m)
bits-set signals [] n y named inside m = absurd (omega (arith, inside))
bits-set signals (o ∷ os) n y named inside m = by (λ h. bits-set signals os n y named h m) (o.number == n) refl
  where
    first : (c : Bool) → (m == n) ≡ c → o.number ≡ n → cond (y.number == m) y.bits (signal_bits signals os m) ≡ cond (m == n) y.bits (cond (o.number == m) o.bits (signal_bits signals os m))
    first true same on = ap (λ b. cond b y.bits (signal_bits signals os m)) (let g : (y.number == m) ≡ true = grind (arith, nat_tests) in g) ∙ sym (ap (λ b. cond b y.bits (cond (o.number == m) o.bits (signal_bits signals os m))) same)
    first false apart on =
        let differ = not-equal m n apart in
        ap (λ b. cond b y.bits (signal_bits signals os m)) (apart-from y.number m (λ e. differ (sym e ∙ named)))
        ∙ sym (ap (λ b. cond b o.bits (signal_bits signals os m)) (apart-from o.number m (λ e. differ (sym e ∙ on))))
        ∙ sym (ap (λ b. cond b y.bits (cond (o.number == m) o.bits (signal_bits signals os m))) apart)

    behind : (c : Bool) → (m == n) ≡ c → (o.number ≡ n → ⊥) → cond (o.number == m) o.bits (cond (m == n) y.bits (signal_bits signals os m)) ≡ cond (m == n) y.bits (cond (o.number == m) o.bits (signal_bits signals os m))
    behind true same differ =
        let e : m ≡ n = grind (arith, nat_tests) in
        ap (λ b. cond b o.bits (cond (m == n) y.bits (signal_bits signals os m))) (apart-from o.number m (λ f. differ (f ∙ e)))
        ∙ ap (λ b. cond b y.bits (signal_bits signals os m)) same ∙ sym (ap (λ b. cond b y.bits (cond (o.number == m) o.bits (signal_bits signals os m))) same)
    behind false apart differ =
        ap (λ b. cond (o.number == m) o.bits (cond b y.bits (signal_bits signals os m))) apart
        ∙ sym (ap (λ b. cond b y.bits (cond (o.number == m) o.bits (signal_bits signals os m))) apart)

    by : (place os n < length os → signal_bits signals (set os (place os n) y) m ≡ cond (m == n) y.bits (signal_bits signals os m)) → (c : Bool) → (o.number == n) ≡ c
        → signal_bits signals (set (o ∷ os) (place (o ∷ os) n) y) m ≡ cond (m == n) y.bits (signal_bits signals (o ∷ os) m)
    by rest true same =
        let on : o.number ≡ n = grind (arith, nat_tests) in
        ap (λ b. signal_bits signals (set (o ∷ os) (cond b 0 (suc (place os n))) y) m) same ∙ first (m == n) refl on
    by rest false apart =
        let z : place (o ∷ os) n ≡ suc (place os n) = ap (λ b. cond b 0 (suc (place os n))) apart in
        ap (λ j. signal_bits signals (set (o ∷ os) j y) m) z ∙ ap (cond (o.number == m) o.bits) (rest (omega (arith, inside, z)))
        ∙ behind (m == n) refl (not-equal o.number n apart)

-- what it held
bits-placed : (signals : List (List Bit4)) (over : List Slot) (n : ℕ) (d : Slot) → place over n < length over → (get_or over (place over n) d).bits ≡ signal_bits signals over n
bits-placed signals [] n d inside = absurd (omega (arith, inside))
bits-placed signals (o ∷ os) n d inside = by (bits-placed signals os n d) (o.number == n) refl
  where
    by : (place os n < length os → (get_or os (place os n) d).bits ≡ signal_bits signals os n) → (c : Bool) → (o.number == n) ≡ c → (get_or (o ∷ os) (place (o ∷ os) n) d).bits ≡ signal_bits signals (o ∷ os) n
    by rest true same = ap (λ b. (get_or (o ∷ os) (cond b 0 (suc (place os n))) d).bits) same ∙ sym (ap (λ b. cond b o.bits (signal_bits signals os n)) same)
    by rest false apart =
        let z : place (o ∷ os) n ≡ suc (place os n) = ap (λ b. cond b 0 (suc (place os n))) apart in
        ap (λ j. (get_or (o ∷ os) j d).bits) z ∙ rest (omega (arith, inside, z)) ∙ sym (ap (λ b. cond b o.bits (signal_bits signals os n)) apart)

number-placed : (over : List Slot) (n : ℕ) (d : Slot) → place over n < length over → (get_or over (place over n) d).number ≡ n
number-placed [] n d inside = absurd (omega (arith, inside))
number-placed (o ∷ os) n d inside = by (number-placed os n d) (o.number == n) refl
  where
    by : (place os n < length os → (get_or os (place os n) d).number ≡ n) → (c : Bool) → (o.number == n) ≡ c → (get_or (o ∷ os) (place (o ∷ os) n) d).number ≡ n
    by rest true same = ap (λ b. (get_or (o ∷ os) (cond b 0 (suc (place os n))) d).number) same ∙ (let e : o.number ≡ n = grind (arith, nat_tests) in e)
    by rest false apart =
        let z : place (o ∷ os) n ≡ suc (place os n) = ap (λ b. cond b 0 (suc (place os n))) apart in
        ap (λ j. (get_or (o ∷ os) j d).number) z ∙ rest (omega (arith, inside, z))

pub signal-set : (signals : List (List Bit4)) (old over new : List Slot) (n k : ℕ) (d : Slot) (s : List Bit4) (p : Window) (bits : List Bit4) → ((m : ℕ) → signal_bits signals over m ≡ signal_bits signals old m) → IsPlace over n k
    → new ≡ set over k (record (get_or over k d) { bits = s }) → SlotWritten (get_or over k d).bits s p bits → SignalWritten signals old new n p bits
signal-set signals old over new n k d s p bits same at is w =
    let inside : place over n < length over = subst (λ j. j < length over) at.is at.there in
    let named : (get_or over k d).number ≡ n = ap (λ j. (get_or over j d).number) at.is ∙ number-placed over n d inside in
    let bits_were : (get_or over k d).bits ≡ signal_bits signals old n = ap (λ j. (get_or over j d).bits) at.is ∙ bits-placed signals over n d inside ∙ same n in
    record {
      slot = s;
      now = λ m. ap (λ xs. signal_bits signals xs m) (is ∙ ap (λ j. set over j (record (get_or over k d) { bits = s })) at.is)
          ∙ bits-set signals over n (record (get_or over k d) { bits = s }) named inside m ∙ ap (cond (m == n) s) (same m);
      written = subst (λ v. SlotWritten v s p bits) bits_were w;
    }

pub ruleset signals_written = (signal-set)
