-- The combinational processes of a design, and those of its machine, place by place.
use Rattle.std.proofs.Common.{◌≡◌, ◌⊎◌, inl, inr, ℕ, zero, suc, ◌+◌, ◌<◌, ◌≤◌, Bool, true, false, cond, List, [], ◌∷◌, ◌++◌, length, map, flat_map, slice_index_or, Some, refl, sym, ap, ◌∙◌, subst, arith}
use Rattle.std.specs.Prelude.{slice_get}
use Rattle.std.specs.List.{AllZip}
use Rattle.b4_core.specs.declared.bit.Bit4.TheVariants.{X}
use Rattle.row_machine.specs.Valuation.{Member}
use Rattle.row_machine.specs.Machine as M
use Rattle.row_machine.specs.Stuck.{Distinct}
use Rattle.row_machine.proofs.Basics.{member_at}
use Rattle.sv_types.specs.declared.design.Design.{Design}
use Rattle.sv_types.specs.declared.design.Process.{Process}
use Rattle.sv_types.specs.declared.design.ProcessKind.{ProcessKind}
use Rattle.sv_types.specs.declared.design.ProcessKind.TheVariants.{Continuous, Link, Comb, Latch, Star, Edges}
use Rattle.sv_types.specs.Statements.{Doing, doing}
use Rattle.sv_types.specs.Machine as SM
use Rattle.sv_types.specs.Machine.{parts, machine, ProcessMeaning, process_meaning, comb_of, reads_of, writes_of}
use Rattle.design_breaks.specs.Memories.{is_edged}
use Rattle.comb_order.specs.Combs.{numbers_from}

-- a process that stands past the end
pub no_process : M.Process
no_process = M.assignment [] [] (λ v q. X)

-- what a process makes of the machine: nothing, or one process with its bits
pub record MakesOne (d : Design) (does : Doing) (kind : ProcessKind) : Type 0 where
  pub not_edged : is_edged kind ≡ false
  pub made : M.Process
  pub is : comb_of (parts d) does kind ≡ made ∷ []
  pub reads : made.reads ≡ reads_of (parts d) does
  pub writes : made.writes ≡ writes_of (parts d) does

pub record MakesNone (d : Design) (does : Doing) (kind : ProcessKind) : Type 0 where
  pub edged : is_edged kind ≡ true
  pub is : comb_of (parts d) does kind ≡ []

pub makes : (d : Design) (does : Doing) (kind : ProcessKind) → MakesOne d does kind ⊎ MakesNone d does kind
makes d does Continuous = inl (record { not_edged = refl; made = SM.comb (parts d) true [] does; is = refl; reads = refl; writes = refl })
makes d does (Link port) = inl (record { not_edged = refl; made = SM.comb (parts d) true [] does; is = refl; reads = refl; writes = refl })
makes d does Comb = inl (record { not_edged = refl; made = SM.comb (parts d) true [] does; is = refl; reads = refl; writes = refl })
makes d does Latch = inl (record { not_edged = refl; made = SM.comb (parts d) true [] does; is = refl; reads = refl; writes = refl })
makes d does Star = inl (record { not_edged = refl; made = SM.comb (parts d) false (SM.names_of (parts d) does) does; is = refl; reads = refl; writes = refl })
makes d does (Edges es) = inr (record { edged = refl; is = refl })

-- a number, and the process of the machine that the process with this number makes
pub record Stands (d : Design) (n : ℕ) (c : M.Process) : Type 0 where
  pub process : Process
  pub stands : slice_get d.processes n ≡ Some process
  pub makes_it : MakesOne d (doing process.body) process.kind
  pub same : makes_it.made ≡ c

module _ (d : Design) where
  abbrev pub combs_of : List Process → List M.Process
  combs_of ps = flat_map (λ (p : ProcessMeaning). comb_of (parts d) p.does p.kind) (map process_meaning ps)

  abbrev pub From : ℕ → List Process → Type 0
  From k ps = (j : ℕ) (p : Process) → slice_get ps j ≡ Some p → slice_get d.processes (k + j) ≡ Some p

  from-rest : (k : ℕ) (p : Process) (ps : List Process) → From k (p ∷ ps) → From (suc k) ps
  from-rest k p ps from j q h = let at : suc k + j ≡ k + suc j = omega arith in ap (λ n. slice_get d.processes n) at ∙ from (suc j) q h

  pub all-stand : (k : ℕ) (ps : List Process) → From k ps → AllZip (Stands d) (numbers_from k ps) (combs_of ps)
  all-stand k [] from = tt
  all-stand k (p ∷ ps) from = by (all-stand (suc k) ps (from-rest k p ps from)) (makes d (doing p.body) p.kind)
    where
      by : AllZip (Stands d) (numbers_from (suc k) ps) (combs_of ps) → MakesOne d (doing p.body) p.kind ⊎ MakesNone d (doing p.body) p.kind → AllZip (Stands d) (numbers_from k (p ∷ ps)) (combs_of (p ∷ ps))
      by rest (inr none) =
          subst (λ b. AllZip (Stands d) (cond b (numbers_from (suc k) ps) (k ∷ numbers_from (suc k) ps)) (combs_of (p ∷ ps))) (sym none.edged)
          (subst (λ cs. AllZip (Stands d) (numbers_from (suc k) ps) (cs ++ combs_of ps)) (sym none.is) rest)
      by rest (inl one) =
          subst (λ b. AllZip (Stands d) (cond b (numbers_from (suc k) ps) (k ∷ numbers_from (suc k) ps)) (combs_of (p ∷ ps))) (sym one.not_edged)
          (subst (λ cs. AllZip (Stands d) (k ∷ numbers_from (suc k) ps) (cs ++ combs_of ps)) (sym one.is)
          (record { process = p; stands = (let at : k ≡ k + 0 = omega arith in ap (λ n. slice_get d.processes n) at ∙ from 0 p refl); makes_it = one; same = refl }, rest))

  abbrev pub numbers : List ℕ
  numbers = numbers_from 0 d.processes

  pub processes-stand : AllZip (Stands d) numbers (machine d).combs
  processes-stand = all-stand 0 d.processes (λ j p h. let at : 0 + j ≡ j = omega arith in ap (λ n. slice_get d.processes n) at ∙ h)

-- lists place by place
pub zip-long : {A B : Type 0} (R : A → B → Type 0) (xs : List A) (ys : List B) → AllZip R xs ys → length xs ≡ length ys
zip-long R [] [] z = refl
zip-long R [] (y ∷ ys) z = absurd z
zip-long R (x ∷ xs) [] z = absurd z
zip-long R (x ∷ xs) (y ∷ ys) z = ap suc (zip-long R xs ys z.1)

pub zip-at : {A B : Type 0} (R : A → B → Type 0) (xs : List A) (ys : List B) (k : ℕ) (a : A) (b : B) → AllZip R xs ys → k < length xs → R (slice_index_or xs k a) (slice_index_or ys k b)
zip-at R [] [] k a b z low = absurd (omega (arith, low))
zip-at R [] (y ∷ ys) k a b z low = absurd z
zip-at R (x ∷ xs) [] k a b z low = absurd z
zip-at R (x ∷ xs) (y ∷ ys) zero a b z low = z.0
zip-at R (x ∷ xs) (y ∷ ys) (suc k) a b z low = zip-at R xs ys k a b z.1 (omega (arith, low))

-- the number of each combinational process
cond-member : (b : Bool) (n k : ℕ) (ns : List ℕ) → Member ns n → Member (cond b ns (k ∷ ns)) n
cond-member true n k ns m = m
cond-member false n k ns m = inr m

pub numbered : (k j : ℕ) (ps : List Process) (p : Process) → slice_get ps j ≡ Some p → is_edged p.kind ≡ false → Member (numbers_from k ps) (k + j)
numbered k j [] p h plain = absurd (cc)
numbered k zero (q ∷ ps) p h plain =
    let same : q ≡ p = cc in
    let at : k + 0 ≡ k = omega arith in
    subst (λ b. Member (cond b (numbers_from (suc k) ps) (k ∷ numbers_from (suc k) ps)) (k + 0)) (sym (ap (λ (x : Process). is_edged x.kind) same ∙ plain)) (inl at)
numbered k (suc j) (q ∷ ps) p h plain =
    let at : suc k + j ≡ k + suc j = omega arith in
    cond-member (is_edged q.kind) (k + suc j) k (numbers_from (suc k) ps) (subst (Member (numbers_from (suc k) ps)) at (numbered (suc k) j ps p h plain))

-- no number twice, and none above the count
later : (k n c : ℕ) → (suc k ≤ n) × (n < suc k + c) → (k ≤ n) × (n < k + suc c)
later k n c r = (omega (arith, r.0), omega (arith, r.1))

here : (k n c : ℕ) → n ≡ k → (k ≤ n) × (n < k + suc c)
here k n c e = (omega (arith, e), omega (arith, e))

one-more : (b : Bool) (k n c : ℕ) (ns : List ℕ) → (Member ns n → (suc k ≤ n) × (n < suc k + c)) → Member (cond b ns (k ∷ ns)) n → (k ≤ n) × (n < k + suc c)
one-more true k n c ns rest m = later k n c (rest m)
one-more false k n c ns rest (inl e) = here k n c e
one-more false k n c ns rest (inr m) = later k n c (rest m)

pub above : (k n : ℕ) (ps : List Process) → Member (numbers_from k ps) n → (k ≤ n) × (n < k + length ps)
above k n [] m = absurd m
above k n (p ∷ ps) m = one-more (is_edged p.kind) k n (length ps) (numbers_from (suc k) ps) (above (suc k) n ps) m

one-distinct : (b : Bool) (k : ℕ) (ns : List ℕ) → (Member ns k → ⊥) → Distinct ns → Distinct (cond b ns (k ∷ ns))
one-distinct true k ns new rest = rest
one-distinct false k ns new rest = (new, rest)

pub distinct-numbers : (k : ℕ) (ps : List Process) → Distinct (numbers_from k ps)
distinct-numbers k [] = tt
distinct-numbers k (p ∷ ps) =
    one-distinct (is_edged p.kind) k (numbers_from (suc k) ps) (λ m. let r = above (suc k) k ps m in let low = r.0 in omega (arith, low)) (distinct-numbers (suc k) ps)

one-longer : (b : Bool) (k c : ℕ) (ns : List ℕ) → length ns ≤ c → length (cond b ns (k ∷ ns)) ≤ suc c
one-longer true k c ns h = omega (arith, h)
one-longer false k c ns h = omega (arith, h)

pub few-numbers : (k : ℕ) (ps : List Process) → length (numbers_from k ps) ≤ length ps
few-numbers k [] = omega arith
few-numbers k (p ∷ ps) = one-longer (is_edged p.kind) k (length ps) (numbers_from (suc k) ps) (few-numbers (suc k) ps)

-- the numbers of some processes are below any bound of their count
pub numbers-low : (ns : List ℕ) (ps : List Process) (most : ℕ) → ns ≡ numbers_from 0 ps → length ps ≤ most → (k : ℕ) → k < length ns → slice_index_or ns k 0 < most
numbers-low ns ps most is few k low =
    let r = above 0 (slice_index_or ns k 0) ps (subst (λ xs. Member xs (slice_index_or ns k 0)) is (member_at ns k 0 low)) in let below = r.1 in omega (arith, below, few)
