-- Signals that hold z where nothing writes them.
use Rattle.std.proofs.Common.{◌≡◌, ◌≢◌, ℕ, zero, suc, ◌+◌, ◌==◌, ◌<◌, ◌≤◌, Bool, true, false, ◌||◌, cond, List, [], ◌∷◌, length, map, Option, Some, None, refl, sym, ap, ◌∙◌, subst, arith, get_or-set_other, get_or-set_same}
use Rattle.std.specs.Prelude.{nat_lt, slice_get, slice_set, slice_index_or}
use Rattle.std.proofs.Math.Path.{fun_ext}
use Rattle.std.proofs.lemmas.Bool.Decides.{nat_tests}
use Rattle.b4_core.specs.declared.bit.Bit4.{Bit4}
use Rattle.b4_core.specs.declared.bit.Bit4.TheVariants.{X, Z}
use Rattle.row_machine.specs.Valuation.{Place, Valuation}
use Rattle.round_runner.specs.Stores.{Holds, holding, widths, vector_of}
use Rattle.v_instances.specs.Slots.{signal_of}
use Rattle.v_instances.specs.declared.slots.Slot.{Slot}
use Rattle.v_meaning.specs.Machine.{size, holds_value, given, is_written}
use Rattle.v_meaning.specs.Modules.{Signal}
use Rattle.v_zero.specs.Zero.{marked, started, StartedOne}
use Rattle.v_zero.specs.Laws.{StartHeld}

below-is : (a b : ℕ) → nat_lt a b ≡ true → a < b
below-is a b h = grind (arith, nat_tests)

behind-is : (a b : ℕ) → nat_lt a b ≡ false → b ≤ a
behind-is a b h = grind (arith, nat_tests)

size-of : (ss : List Signal) (n : ℕ) (s : Signal) → slice_get ss n ≡ Some s → slice_index_or (map size ss) n 0 ≡ size s
size-of [] n s h = absurd (cc)
size-of (x ∷ ss) zero s h = let e : x ≡ s = cc in ap size e
size-of (x ∷ ss) (suc n) s h = size-of ss n s h

pub start-held : StartHeld
start-held own d marks held vs tells before after = record {
  values = after.values ∙ fun_ext (λ (q : Place). at q (slice_get d.signals q.signal) refl);
  shape = after.shape ∙ before.shape;
}
  where
    here : (q : Place) (s : Signal) → slice_get d.signals q.signal ≡ Some s → (b : Bool) → nat_lt q.bit (size s) ≡ b
        → cond b (cond (holds_value s.kind || marked marks q) (holding held q) Z) X ≡ cond b (cond (holds_value s.kind || is_written own d q) (given own d q) Z) X
    here q s is true e =
        let l = below-is q.bit (size s) e in
        let same = size-of d.signals q.signal s is in
        ap (λ w. cond (holds_value s.kind || w) (holding held q) Z) (tells q (omega (arith, l, same)))
        ∙ ap (λ (v : Valuation). cond (holds_value s.kind || is_written own d q) (v q) Z) before.values
    here q s is false e = refl

    at : (q : Place) (o : Option Signal) → slice_get d.signals q.signal ≡ o
        → (elim o as (λ x. Bit4) [ None ↦ X | Some s ↦ cond (nat_lt q.bit (size s)) (cond (holds_value s.kind || marked marks q) (holding held q) Z) X ])
        ≡ (elim o as (λ x. Bit4) [ None ↦ X | Some s ↦ cond (nat_lt q.bit (size s)) (cond (holds_value s.kind || is_written own d q) (given own d q) Z) X ])
    at q None is = refl
    at q (Some s) is = here q s is (nat_lt q.bit (size s)) refl

-- the signals before a number have been put at what they hold at the start, and no others
pub record StartedTo (ss : List Signal) (marks : List (List Bool)) (i : ℕ) (old new : List (List Bit4)) : Type 0 where
  pub shape : widths new ≡ widths old
  pub done : (n : ℕ) → n < i → (s : Signal) → slice_get ss n ≡ Some s → StartedOne s (slice_index_or marks n []) (vector_of old n) (vector_of new n)
  pub rest : (n : ℕ) → i ≤ n → vector_of new n ≡ vector_of old n

shape-set : (vs : List (List Bit4)) (n : ℕ) (x : List Bit4) → length x ≡ length (vector_of vs n) → widths (slice_set vs n x) ≡ widths vs
shape-set [] n x h = refl
shape-set (v ∷ vs) zero x h = ap (λ w. w ∷ widths vs) h
shape-set (v ∷ vs) (suc n) x h = ap (λ ws. length v ∷ ws) (shape-set vs n x h)

got : (ss : List Signal) (n : ℕ) (s t : Signal) → slice_get ss n ≡ Some s → slice_get ss n ≡ Some t → s ≡ t
got ss n s t h g = cc

one-started : (ss : List Signal) (marks : List (List Bool)) (i : ℕ) (old now : List (List Bit4)) (s : Signal) (x : List Bit4) → i < length now → slice_get ss i ≡ Some s
    → StartedOne s (slice_index_or marks i []) (vector_of now i) x → StartedTo ss marks i old now → StartedTo ss marks (suc i) old (slice_set now i x)
one-started ss marks i old now s x l is one before = record {
  shape = shape-set now i x one.shape ∙ before.shape;
  done = λ n h t g. done n t g h (n == i) refl;
  rest = λ n h. get_or-set_other now i n x [] (later n h) ∙ before.rest n (omega (arith, h));
}
  where
    same-number : (a b : ℕ) → (a == b) ≡ true → a ≡ b
    same-number a b h = grind (arith, nat_tests)

    other-number : (a b : ℕ) → (a == b) ≡ false → a ≢ b
    other-number a b h = grind (arith, nat_tests)

    later : (n : ℕ) → suc i ≤ n → n ≢ i
    later n h = omega (arith, h)

    here : StartedOne s (slice_index_or marks i []) (vector_of old i) (vector_of (slice_set now i x) i)
    here =
        subst (λ v. StartedOne s (slice_index_or marks i []) v (vector_of (slice_set now i x) i)) (before.rest i (omega arith))
        (subst (StartedOne s (slice_index_or marks i []) (vector_of now i)) (sym (get_or-set_same now i x [] l)) one)

    earlier : (n : ℕ) → n < suc i → n ≢ i → n < i
    earlier n h e = omega (arith, h, e)

    done : (n : ℕ) (t : Signal) → slice_get ss n ≡ Some t → n < suc i → (b : Bool) → (n == i) ≡ b → StartedOne t (slice_index_or marks n []) (vector_of old n) (vector_of (slice_set now i x) n)
    done n t g h true e =
        let same : n ≡ i = same-number n i e in
        let alike : s ≡ t = got ss i s t is (ap (slice_get ss) (sym same) ∙ g) in
        subst (λ k. StartedOne t (slice_index_or marks k []) (vector_of old k) (vector_of (slice_set now i x) k)) (sym same)
        (subst (λ u. StartedOne u (slice_index_or marks i []) (vector_of old i) (vector_of (slice_set now i x) i)) alike here)
    done n t g h false e =
        let other : n ≢ i = other-number n i e in
        subst (StartedOne t (slice_index_or marks n []) (vector_of old n)) (sym (get_or-set_other now i n x [] other)) (before.done n (earlier n h other) t g)

length-widths : (vs : List (List Bit4)) (ss : List Signal) → widths vs ≡ map size ss → (n : ℕ) → slice_get ss n ≡ None → vector_of vs n ≡ []
length-widths [] ss h n g = refl
length-widths (v ∷ vs) [] h n g = absurd (cc)
length-widths (v ∷ vs) (s ∷ ss) h zero g = absurd (cc)
length-widths (v ∷ vs) (s ∷ ss) h (suc n) g = length-widths vs ss (cc) n g

size-vector : (vs : List (List Bit4)) (ss : List Signal) → widths vs ≡ map size ss → (n : ℕ) (s : Signal) → slice_get ss n ≡ Some s → length (vector_of vs n) ≡ size s
size-vector [] [] h n s g = absurd (cc)
size-vector [] (t ∷ ss) h n s g = absurd (cc)
size-vector (v ∷ vs) [] h n s g = absurd (cc)
size-vector (v ∷ vs) (t ∷ ss) h zero s g = let e : t ≡ s = cc in let w : length v ≡ size t = cc in w ∙ ap size e
size-vector (v ∷ vs) (t ∷ ss) h (suc n) s g = size-vector vs ss (cc) n s g

behind : (v : List Bit4) (k : ℕ) → length v ≤ k → slice_index_or v k X ≡ X
behind [] k h = refl
behind (x ∷ v) zero h = absurd (omega (arith, h))
behind (x ∷ v) (suc k) h = behind v k (omega (arith, h))

there-number : (ss : List Signal) (n : ℕ) (s : Signal) → slice_get ss n ≡ Some s → n < length ss
there-number [] n s h = absurd (cc)
there-number (x ∷ ss) zero s h = omega arith
there-number (x ∷ ss) (suc n) s h = let l = there-number ss n s h in omega (arith, l)

pub all-started : (ss : List Signal) (marks : List (List Bool)) (i : ℕ) (old new : List (List Bit4)) → widths old ≡ map size ss → length ss ≤ i → StartedTo ss marks i old new
    → Holds (widths old) (started ss (marked marks) (holding old)) new
all-started ss marks i old new is l all = record {
  values = fun_ext (λ (q : Place). at q (slice_get ss q.signal) refl);
  shape = all.shape;
}
  where
    widths-new : widths new ≡ map size ss
    widths-new = all.shape ∙ is

    here : (q : Place) (s : Signal) → slice_get ss q.signal ≡ Some s → (b : Bool) → nat_lt q.bit (size s) ≡ b
        → holding new q ≡ cond b (cond (holds_value s.kind || marked marks q) (holding old q) Z) X
    here q s g true e =
        let low = below-is q.bit (size s) e in
        let number = there-number ss q.signal s g in
        let long = size-vector old ss is q.signal s g in
        (all.done q.signal (omega (arith, number, l)) s g).values q.bit (omega (arith, low, long))
    here q s g false e =
        let high = behind-is q.bit (size s) e in
        let long = size-vector new ss widths-new q.signal s g in
        behind (vector_of new q.signal) q.bit (omega (arith, high, long))

    at : (q : Place) (o : Option Signal) → slice_get ss q.signal ≡ o
        → holding new q ≡ (elim o as (λ x. Bit4) [ None ↦ X | Some s ↦ cond (nat_lt q.bit (size s)) (cond (holds_value s.kind || marked marks q) (holding old q) Z) X ])
    at q None g = ap (λ (v : List Bit4). slice_index_or v q.bit X) (length-widths new ss widths-new q.signal g)
    at q (Some s) g = here q s g (nat_lt q.bit (size s)) refl

-- elements by their places
pub got-none : {A : Type 0} (xs : List A) (n : ℕ) (d : A) → slice_get xs n ≡ None → slice_index_or xs n d ≡ d
got-none [] n d h = refl
got-none (x ∷ xs) zero d h = absurd (cc)
got-none (x ∷ xs) (suc n) d h = got-none xs n d h

pub got-some : {A : Type 0} (xs : List A) (n : ℕ) (d x : A) → slice_get xs n ≡ Some x → slice_index_or xs n d ≡ x
got-some [] n d x h = absurd (cc)
got-some (y ∷ xs) zero d x h = cc
got-some (y ∷ xs) (suc n) d x h = got-some xs n d x h

vector-at : (vs : List (List Bit4)) (n : ℕ) (v : List Bit4) → n < length vs → v ≡ slice_index_or vs n v → vector_of vs n ≡ v
vector-at [] n v l h = absurd (omega (arith, l))
vector-at (u ∷ vs) zero v l h = sym h
vector-at (u ∷ vs) (suc n) v l h = vector-at vs n v (omega (arith, l)) h

slot-at : (slots : List Slot) (n : ℕ) (s : Slot) → n < length slots → s ≡ slice_index_or slots n s → slice_get (map signal_of slots) n ≡ Some (signal_of s)
slot-at [] n s l h = absurd (omega (arith, l))
slot-at (t ∷ slots) zero s l h = ap (λ (x : Slot). Some (signal_of x)) (sym h)
slot-at (t ∷ slots) (suc n) s l h = slot-at slots n s (omega (arith, l)) h

pub next-started : (slots : List Slot) (marks : List (List Bool)) (i j : ℕ) (old now : List (List Bit4)) (s : Slot) (v x : List Bit4) (ms : List Bool) → i < length now → i < length slots → s ≡ slice_index_or slots i s → v ≡ slice_index_or now i v
    → ms ≡ slice_index_or marks i [] → j ≡ i + 1 → StartedOne (signal_of s) ms v x → StartedTo (map signal_of slots) marks i old now → StartedTo (map signal_of slots) marks j old (slice_set now i x)
next-started slots marks i j old now s v x ms l k is at here next one before =
    subst (λ n. StartedTo (map signal_of slots) marks n old (slice_set now i x)) (sym (let e : j ≡ suc i = omega (arith, next) in e))
    (one-started (map signal_of slots) marks i old now (signal_of s) x l (slot-at slots i s k is)
    (subst (λ u. StartedOne (signal_of s) (slice_index_or marks i []) u x) (sym (vector-at now i v l at)) (subst (λ m. StartedOne (signal_of s) m v x) here one)) before)

pub same-count : (vs : List (List Bit4)) (slots : List Slot) → widths vs ≡ map size (map signal_of slots) → length vs ≡ length slots
same-count [] [] h = refl
same-count [] (s ∷ slots) h = absurd (cc)
same-count (v ∷ vs) [] h = absurd (cc)
same-count (v ∷ vs) (s ∷ slots) h = ap suc (same-count vs slots (cc))

pub count-signals : (slots : List Slot) → length (map signal_of slots) ≡ length slots
count-signals [] = refl
count-signals (s ∷ slots) = ap suc (count-signals slots)
