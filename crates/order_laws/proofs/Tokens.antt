-- Tokens that ascend in two parts of a text ascend in each.
use Rattle.std.proofs.Common.{ℕ, suc, ◌≤◌, ◌<◌, List, [], ◌∷◌, ◌++◌, arith}
use Rattle.expr_type.specs.Placed.{Ascend}
use Rattle.expr_type.proofs.Ordering.{ascend-wider}

-- where the first part ends and the second begins
pub record Split (low high : ℕ) (ts us : List ℕ) : Type 0 where
  pub between : ℕ
  pub from : low ≤ between
  pub to : between ≤ high
  pub before : Ascend low between ts
  pub behind : Ascend between high us

pub split : (ts us : List ℕ) (low high : ℕ) → low ≤ high → Ascend low high (ts ++ us) → Split low high ts us
split [] us low high h a = record { between = low; from = omega arith; to = h; before = tt; behind = a }
split (t ∷ ts) us low high h a =
    let s = split ts us (suc t) high (let b = a.1 in omega arith) a.2 in
    record { between = s.between; from = let b = a.0 in let c = s.from in omega arith; to = s.to; before = (a.0, let c = s.from in omega arith, s.before); behind = s.behind }

-- a part before a token, and what stands behind it
pub record SplitAt (low high : ℕ) (ts : List ℕ) (at : ℕ) (us : List ℕ) : Type 0 where
  pub from : low ≤ at
  pub to : at < high
  pub before : Ascend low at ts
  pub behind : Ascend (suc at) high us

pub split-at : (ts : List ℕ) (at : ℕ) (us : List ℕ) (low high : ℕ) → low ≤ high → Ascend low high (ts ++ (at ∷ us)) → SplitAt low high ts at us
split-at ts at us low high h a =
    let s = split ts (at ∷ us) low high h a in
    let b = s.behind in record {
      from = let c = s.from in let d = b.0 in omega arith;
      to = b.1;
      before = ascend-wider ts low s.between low at (omega arith) b.0 s.before;
      behind = b.2;
    }

-- the front alone, and what stands behind a token from before it on
pub front : (ts us : List ℕ) (low high : ℕ) → low ≤ high → Ascend low high (ts ++ us) → Ascend low high ts
front ts us low high h a = let s = split ts us low high h a in ascend-wider ts low s.between low high (omega arith) s.to s.before

pub lower : (ts : List ℕ) (at low high : ℕ) → low ≤ at → Ascend (suc at) high ts → Ascend low high ts
lower ts at low high h a = ascend-wider ts (suc at) high low high (omega arith) (omega arith) a
