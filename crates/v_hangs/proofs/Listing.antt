-- The signals among numbers, each once.
use Rattle.std.specs.Prelude.{IfSome}
use Rattle.std.proofs.Common.{◌≡◌, ◌<◌, ◌≤◌, ℕ, Option, Some, None, Result, Ok, Err, IfOk, ◌==◌, Bool, true, false, ◌&&◌, ◌||◌, List, [], ◌∷◌, ◌++◌, length, map, refl, sym, ap, ◌∙◌, subst, true≢false, arith}
use Rattle.std.proofs.lemmas.Bool.{lt-ltb, le-ltb}
use Rattle.std.proofs.lemmas.Bool.Decides.{nat_tests}
use Rattle.v_meaning.specs.Scopes.{is_signal}
use Rattle.v_footprints.specs.Footprints.{uses}
use Rattle.v_reads.specs.Reads.{is_among}
use Rattle.v_reads.proofs.Sets.{among-both, or-none}
use Rattle.v_stores.specs.Waits.{is_named}
use Rattle.v_writes.specs.Writes.{use_in}
use Rattle.v_writes.specs.declared.targets.Written.{Written}
use Rattle.v_zero.specs.Zero.{Listed}
use Rattle.v_hangs.specs.Hangs.{AreSignals, ListsSignals}

same-number : (a b : ℕ) → (a == b) ≡ true → a ≡ b
same-number a b h = grind (arith, nat_tests)

pub none-below : (count : ℕ) → AreSignals count [] []
none-below count = record { same = λ n. no-signal (is_signal n); there = λ n e. absurd (true≢false (sym e)) }
  where
    no-signal : (s : Bool) → false ≡ (s && false)
    no-signal true = refl
    no-signal false = refl

-- a signal more
pub more-below : (count k : ℕ) (ns signals : List ℕ) → k < 4294967296 → k < count → AreSignals count ns signals → AreSignals count (ns ++ k ∷ []) (signals ++ k ∷ [])
more-below count k ns signals is there old = record {
  same = λ n.
      among-both signals (k ∷ []) n ∙ ap (λ b. b || ((k == n) || false)) (old.same n)
      ∙ both (is_signal n) (is_among ns n) (k == n) (λ e. ap is_signal (sym (same-number k n e)) ∙ lt-ltb k 4294967296 is)
      ∙ ap (λ b. is_signal n && b) (sym (among-both ns (k ∷ []) n));
  there = λ n e. either n (is_among signals n) (k == n) (sym (among-both signals (k ∷ []) n) ∙ e) (old.there n) (λ f. subst (λ m. m < count) (same-number k n f) there);
}
  where
    both : (s a b : Bool) → (b ≡ true → s ≡ true) → ((s && a) || (b || false)) ≡ (s && (a || (b || false)))
    both true a b h = refl
    both false a true h = absurd (true≢false (sym (h refl)))
    both false a false h = refl

    either : (n : ℕ) (a b : Bool) → (a || (b || false)) ≡ true → (a ≡ true → n < count) → (b ≡ true → n < count) → n < count
    either n true b e f g = f refl
    either n false true e f g = g refl
    either n false false e f g = absurd (true≢false (sym e))

-- a local more
pub local-below : (count k : ℕ) (ns signals : List ℕ) → 4294967296 ≤ k → AreSignals count ns signals → AreSignals count (ns ++ k ∷ []) signals
local-below count k ns signals is old = record {
  same = λ n.
      old.same n ∙ apart (is_signal n) (is_among ns n) (k == n) (λ e. ap is_signal (sym (same-number k n e)) ∙ le-ltb k 4294967296 is)
      ∙ ap (λ b. is_signal n && b) (sym (among-both ns (k ∷ []) n));
  there = old.there;
}
  where
    apart : (s a b : Bool) → (b ≡ true → s ≡ false) → (s && a) ≡ (s && (a || (b || false)))
    apart false a b h = refl
    apart true a true h = absurd (true≢false (h refl))
    apart true a false h = or-none a

-- those that have marks are listed
pub listed-once : (mark count : ℕ) (numbers signals marks listed : List ℕ) → AreSignals count numbers signals → length marks ≡ count → Listed mark signals marks listed
    → (n : ℕ) → is_named listed n ≡ (is_signal n && is_among numbers n)
listed-once mark count numbers signals marks listed are long made n =
    either (is_named listed n) (is_among signals n) (λ e. made.same n (made.there n e)) (λ e. made.same n (let h = are.there n e in omega (arith, h, long))) ∙ are.same n
  where
    either : (x y : Bool) → (x ≡ true → x ≡ y) → (y ≡ true → x ≡ y) → x ≡ y
    either true y f g = f refl
    either false true f g = g refl
    either false false f g = refl

-- what is written
same-uses : (ws : List Written) (n : ℕ) → is_among (map (λ (w : Written). w.number) ws) n ≡ uses (map use_in ws) n
same-uses [] n = refl
same-uses (w ∷ ws) n = ap (λ b. (w.number == n) || b) (same-uses ws n)

pub lists-written : (numbers ns : List ℕ) (ws : List Written) → numbers ≡ map (λ (w : Written). w.number) ws → ((n : ℕ) → is_named ns n ≡ (is_signal n && is_among numbers n)) → ListsSignals (map use_in ws) ns
lists-written numbers ns ws e h = record { same = λ n. h n ∙ ap (λ b. is_signal n && b) (ap (λ l. is_among l n) e ∙ same-uses ws n) }

pub if-listed : {A E : Type 0} {P Q : A → Type 0} → ((x : A) → P x → Q x) → (r : Result (Option A) E) → IfOk r (λ o. IfSome o P) → IfOk r (λ o. IfSome o Q)
if-listed f (Ok None) h = tt
if-listed f (Ok (Some x)) h = f x h
if-listed f (Err e) h = tt
