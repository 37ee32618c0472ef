-- Slots that are written make the valuation that a write makes.
use Rattle.std.proofs.Common.{◌≡◌, ℕ, zero, suc, ◌+◌, ◌-◌, ◌^◌, ◌<◌, ◌≤◌, ◌==◌, ◌&&◌, Bool, true, false, cond, List, [], ◌∷◌, ◌++◌, append-nil, take, drop, length, replicate, get_or, set, Option, Some, None, refl, arith, ap, sym, ◌∙◌, subst}
use Rattle.std.specs.Prelude.{nat_lt, is_some, Result, Ok, Err, OnOk}
use Rattle.std.proofs.Math.Path.{fun_ext}
use Rattle.std.proofs.Math.ListN.{drop_of_length-le}
use Rattle.std.proofs.lemmas.List.{get_or-set_other, length-set, take_all}
use Rattle.std.proofs.lemmas.Grind.{get_or-set_at}
use Rattle.std.proofs.lemmas.Bool.Decides.{nat_tests}
use Rattle.b4_core.specs.declared.bit.Bit4.{Bit4}
use Rattle.row_machine.specs.Valuation.{Place, Valuation, put, changed}
use Rattle.picks.specs.Windows.{Window, within, written}
use Rattle.eval_parts.specs.SvTypes.{is_signal, local_number}
use Rattle.eval_parts.specs.Steps.{is_held}
use Rattle.eval_parts.specs.Surroundings.{held_bit, now_of}
use Rattle.eval_store.specs.Writes.{Slot, new_bit, SlotWritten, SignalWritten, LocalWritten, WrittenAt}

-- a bit after a write of its signal or local
there : (b : Bool) (new old : Bit4) → cond b new old ≡ changed (cond b (Some new) None) old
there true new old = refl
there false new old = refl

pub signal-now : (old : List Slot) (n : ℕ) (new : Slot) (path : Window) (bits : List Bit4) → n < 2 ^ 32 → n < length old → SlotWritten (get_or old n None) new path bits → (locals : List Slot) (q : Place)
    → now_of (set old n new) locals q ≡ put (written n path bits) (now_of old locals) q
signal-now old n new path bits low inside w locals q = by (q.signal == n) refl
  where
    by : (c : Bool) → (q.signal == n) ≡ c → now_of (set old n new) locals q ≡ put (written n path bits) (now_of old locals) q
    by true same =
        let e : q.signal ≡ n = grind (arith, nat_tests) in
        let s : is_signal q.signal ≡ true = grind (arith, nat_tests) in
        let other = held_bit (get_or locals (q.signal - 2 ^ 32) None) q.bit in
        ap (λ b. cond b (held_bit (get_or (set old n new) q.signal None) q.bit) other) s
        ∙ ap (λ x. held_bit x q.bit) (get_or-set_at old n q.signal new None e inside) ∙ w.now q.bit
        ∙ there (within path q.bit) (new_bit path bits q.bit) (held_bit (get_or old n None) q.bit)
        ∙ ap (λ b. changed (cond (b && within path q.bit) (Some (new_bit path bits q.bit)) None) (held_bit (get_or old n None) q.bit)) (sym same)
        ∙ ap (λ m. changed (written n path bits q) (held_bit (get_or old m None) q.bit)) (sym e)
        ∙ ap (λ b. changed (written n path bits q) (cond b (held_bit (get_or old q.signal None) q.bit) other)) (sym s)
    by false apart =
        let e : (q.signal ≡ n → ⊥) = λ same. (let g : (q.signal == n) ≡ true = grind (arith, nat_tests) in let f : true ≡ false = sym g ∙ apart in absurd (cc)) in
        let other = held_bit (get_or locals (q.signal - 2 ^ 32) None) q.bit in
        ap (λ x. cond (is_signal q.signal) (held_bit x q.bit) other) (get_or-set_other old n q.signal new None e)
        ∙ ap (λ b. changed (cond (b && within path q.bit) (Some (new_bit path bits q.bit)) None) (now_of old locals q)) (sym apart)

signal-held : (old : List Slot) (n : ℕ) (new : Slot) → n < length old → is_some new ≡ true → is_some (get_or old n None) ≡ true → (k : ℕ) → is_held (set old n new) k ≡ is_held old k
signal-held old n new inside some before k = by (k == n) refl
  where
    by : (c : Bool) → (k == n) ≡ c → is_held (set old n new) k ≡ is_held old k
    by true same =
        let e : k ≡ n = grind (arith, nat_tests) in
        ap is_some (get_or-set_at old n k new None e inside) ∙ some ∙ sym before ∙ ap (λ m. is_some (get_or old m None)) (sym e)
    by false apart =
        let e : (k ≡ n → ⊥) = λ same. (let g : (k == n) ≡ true = grind (arith, nat_tests) in let f : true ≡ false = sym g ∙ apart in absurd (cc)) in
        ap is_some (get_or-set_other old n k new None e)

pub signal-written : (old : List Slot) (n : ℕ) (new : Slot) (path : Window) (bits : List Bit4) → n < 2 ^ 32 → n < length old → is_held old n ≡ true → SlotWritten (get_or old n None) new path bits → SignalWritten old (set old n new) n path bits
signal-written old n new path bits low inside held w = record {
  now = λ locals. fun_ext (signal-now old n new path bits low inside w locals);
  held = signal-held old n new inside w.held held;
}

-- a signal that is held has a slot
pub held-there : (old : List Slot) (n : ℕ) → is_held old n ≡ true → n < length old
held-there [] n h = absurd (cc)
held-there (x ∷ old) zero h = omega arith
held-there (x ∷ old) (suc n) h = let g = held-there old n h in omega arith

-- locals
pub local-now : (old : List Slot) (n : ℕ) (new : Slot) (path : Window) (bits : List Bit4) → n < length old → SlotWritten (get_or old n None) new path bits → (signals : List Slot) (q : Place)
    → now_of signals (set old n new) q ≡ put (written (local_number n) path bits) (now_of signals old) q
local-now old n new path bits inside w signals q = by (q.signal == local_number n) refl
  where
    by : (c : Bool) → (q.signal == local_number n) ≡ c → now_of signals (set old n new) q ≡ put (written (local_number n) path bits) (now_of signals old) q
    by true same =
        let e : q.signal ≡ 2 ^ 32 + n = grind (arith, nat_tests) in
        let s : is_signal q.signal ≡ false = grind (arith, nat_tests) in
        let k : q.signal - 2 ^ 32 ≡ n = omega arith in
        let other = held_bit (get_or signals q.signal None) q.bit in
        ap (λ b. cond b other (held_bit (get_or (set old n new) (q.signal - 2 ^ 32) None) q.bit)) s
        ∙ ap (λ x. held_bit x q.bit) (get_or-set_at old n (q.signal - 2 ^ 32) new None k inside) ∙ w.now q.bit
        ∙ there (within path q.bit) (new_bit path bits q.bit) (held_bit (get_or old n None) q.bit)
        ∙ ap (λ b. changed (cond (b && within path q.bit) (Some (new_bit path bits q.bit)) None) (held_bit (get_or old n None) q.bit)) (sym same)
        ∙ ap (λ m. changed (written (local_number n) path bits q) (held_bit (get_or old m None) q.bit)) (sym k)
        ∙ ap (λ b. changed (written (local_number n) path bits q) (cond b other (held_bit (get_or old (q.signal - 2 ^ 32) None) q.bit))) (sym s)
    by false apart =
        let e : (q.signal ≡ 2 ^ 32 + n → ⊥) = λ same. (let g : (q.signal == local_number n) ≡ true = grind (arith, nat_tests) in let f : true ≡ false = sym g ∙ apart in absurd (cc)) in
        at (is_signal q.signal) refl e
        ∙ ap (λ b. changed (cond (b && within path q.bit) (Some (new_bit path bits q.bit)) None) (now_of signals old q)) (sym apart)
      where
        at : (c : Bool) → is_signal q.signal ≡ c → (q.signal ≡ 2 ^ 32 + n → ⊥) → now_of signals (set old n new) q ≡ now_of signals old q
        at true s e =
            ap (λ b. cond b (held_bit (get_or signals q.signal None) q.bit) (held_bit (get_or (set old n new) (q.signal - 2 ^ 32) None) q.bit)) s
            ∙ sym (ap (λ b. cond b (held_bit (get_or signals q.signal None) q.bit) (held_bit (get_or old (q.signal - 2 ^ 32) None) q.bit)) s)
        at false s e =
            let h : 2 ^ 32 ≤ q.signal = grind (arith, nat_tests) in
            let k : (q.signal - 2 ^ 32 ≡ n → ⊥) = λ same. e (omega arith) in
            ap (λ x. cond (is_signal q.signal) (held_bit (get_or signals q.signal None) q.bit) (held_bit x q.bit)) (get_or-set_other old n (q.signal - 2 ^ 32) new None k)

-- further slots hold nothing
pub none-more : (old : List Slot) (k : ℕ) → get_or (old ++ None ∷ []) k None ≡ get_or old k None
none-more [] zero = refl
none-more [] (suc k) = refl
none-more (x ∷ old) zero = refl
none-more (x ∷ old) (suc k) = none-more old k

pub same-slots : (signals old more : List Slot) → ((k : ℕ) → get_or more k None ≡ get_or old k None) → now_of signals more ≡ now_of signals old
same-slots signals old more same = fun_ext (λ q. ap (λ x. cond (is_signal q.signal) (held_bit (get_or signals q.signal None) q.bit) (held_bit x q.bit)) (same (q.signal - 2 ^ 32)))

pub local-written : (old more : List Slot) (n : ℕ) (new : Slot) (path : Window) (bits : List Bit4) → ((k : ℕ) → get_or more k None ≡ get_or old k None) → n < length more → SlotWritten (get_or more n None) new path bits
    → LocalWritten old (set more n new) n path bits
local-written old more n new path bits same inside w = record {
  now = λ signals. fun_ext (local-now more n new path bits inside w signals) ∙ ap (λ v. put (written (local_number n) path bits) v) (same-slots signals old more same);
}

pub get-any : {A : Type 0} (xs : List A) (n : ℕ) (d x : A) → n < length xs → get_or xs n d ≡ get_or xs n x
get-any [] n d x h = absurd (omega arith)
get-any (y ∷ xs) zero d x h = refl
get-any (y ∷ xs) (suc n) d x h = get-any xs n d x (omega arith)

pub slot-at : (old : List Slot) (n : ℕ) (x new : Slot) (path : Window) (bits : List Bit4) → n < length old → SlotWritten (get_or old n x) new path bits → WrittenAt old (set old n new) n path bits
slot-at old n x new path bits h w = record { slot = new; is = refl; written = subst (λ s. SlotWritten s new path bits) (get-any old n x None h) w }

pub signal-at : (old new : List Slot) (n : ℕ) (path : Window) (bits : List Bit4) → n < 2 ^ 32 → is_held old n ≡ true → WrittenAt old new n path bits → SignalWritten old new n path bits
signal-at old new n path bits low held w = subst (λ s. SignalWritten old s n path bits) (sym w.is) (signal-written old n w.slot path bits low (held-there old n held) held w.written)

pub local-at : (old more new : List Slot) (n : ℕ) (path : Window) (bits : List Bit4) → ((k : ℕ) → get_or more k None ≡ get_or old k None) → n < length more → WrittenAt more new n path bits → LocalWritten old new n path bits
local-at old more new n path bits same inside w = subst (λ s. LocalWritten old s n path bits) (sym w.is) (local-written old more n w.slot path bits same inside w.written)

-- what is behind a borrowed list stays as it was
back : (items slots : List Slot) (len : ℕ) → length slots ≡ length items → len ≡ length items → take len (slots ++ drop (length slots) items) ≡ slots
back items slots len same is =
    ap (λ xs. take len (slots ++ xs)) (drop_of_length-le items (omega arith)) ∙ ap (take len) (append-nil slots) ∙ take_all len slots (omega arith)

pub local-back : (old items borrowed slots : List Slot) (len n : ℕ) (path : Window) (bits : List Bit4) → ((k : ℕ) → get_or items k None ≡ get_or old k None) → n < length items → borrowed ≡ items → len ≡ length items
    → WrittenAt borrowed slots n path bits → LocalWritten old (take len (slots ++ drop (length slots) items)) n path bits
local-back old items borrowed slots len n path bits same inside is long w =
    let at : WrittenAt items slots n path bits = subst (λ xs. WrittenAt xs slots n path bits) is w in
    subst (λ xs. LocalWritten old xs n path bits) (sym (back items slots len (ap length at.is ∙ length-set items n at.slot) long)) (local-at old items slots n path bits same inside at)

pub on-ok : {T E P Q : Type 0} → (P → Q) → (r : Result T E) → OnOk r P → OnOk r Q
on-ok f (Ok x) h = f h
on-ok f (Err e) h = h
