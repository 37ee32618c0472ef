-- Rounds: equal sums, and rounds that change nothing any more.
use Rattle.std.proofs.Common.{◌≡◌, ℕ, zero, suc, ◌+◌, ◌-◌, ◌≤◌, ◌<◌, ◌==◌, Bool, true, false, ◌&&◌, List, refl, sym, ap, ◌∙◌, arith}
use Rattle.std.proofs.lemmas.Bool.{eqb-true, false≢true}
use Rattle.v_top_rules.specs.declared.nodes.Node.{Node}
use Rattle.v_top_rules.specs.declared.sums.Sum.{Sum}
use Rattle.v_top_rules.specs.Sums.{round, rounds, is_same}

pub and-first : (b c : Bool) → (b && c) ≡ true → b ≡ true
and-first true c e = refl
and-first false c e = absurd (false≢true e)

pub and-second : (b c : Bool) → (b && c) ≡ true → c ≡ true
and-second true c e = e
and-second false c e = absurd (false≢true e)

pub same-sum : (a b : Sum) → is_same a b ≡ true → a ≡ b
same-sum a b e =
    let i = eqb-true a.instances b.instances (and-first (a.instances == b.instances) (a.bits == b.bits) e) in
    let j = eqb-true a.bits b.bits (and-second (a.instances == b.instances) (a.bits == b.bits) e) in
    λ k. record { instances = i k; bits = j k }

-- a round that changes nothing stays the last one
stays : (nodes : List Node) (k m : ℕ) → rounds (suc k) nodes ≡ rounds k nodes → rounds (m + k) nodes ≡ rounds k nodes
stays nodes k zero e = ap (λ n. rounds n nodes) (none k)
  where
    none : (n : ℕ) → 0 + n ≡ n
    none n = omega arith
stays nodes k (suc m) e = ap (λ n. rounds n nodes) (one m k) ∙ ap (round nodes) (stays nodes k m e) ∙ e
  where
    one : (a b : ℕ) → suc a + b ≡ suc (a + b)
    one a b = omega arith

pub last-round : (nodes : List Node) (k n : ℕ) → k ≤ n → rounds (suc k) nodes ≡ rounds k nodes → rounds k nodes ≡ rounds n nodes
last-round nodes k n le e =
    let m = n - k in
    let same : m + k ≡ n = omega (arith, le) in
    sym (stays nodes k m e) ∙ ap (λ j. rounds j nodes) same

pub stop_round : (nodes : List Node) (sums next : List Sum) (k n : ℕ) → k < n → sums ≡ rounds k nodes → next ≡ round nodes sums → next ≡ sums → sums ≡ rounds n nodes
stop_round nodes sums next k n low is after same =
    is ∙ last-round nodes k n (omega (arith, low)) (ap (round nodes) (sym is) ∙ sym after ∙ same ∙ is)
