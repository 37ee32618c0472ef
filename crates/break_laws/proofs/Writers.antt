-- Designs in which no process breaks the rule on two writers.
use Rattle.std.proofs.Common.{◌≡◌, ◌⊎◌, inl, inr, ℕ, zero, suc, ◌+◌, ◌<◌, max, min, true, false, ◌&&◌, ◌||◌, ◌==◌, not, cond, List, [], ◌∷◌, ◌++◌, map, flat_map, filter, Some, refl, ap, sym, ◌∙◌, subst, arith}
use Rattle.std.specs.Prelude.{slice_get, nat_le, nat_lt}
use Rattle.std.specs.List.{list_any}
use Rattle.std.proofs.lemmas.Bool.{and_parts, and_from, false_from_ne_true, eqb-true}
use Rattle.std.proofs.lemmas.Bool.Decides.{nat_tests}
use Rattle.row_machine.specs.Valuation.{Place, Member, has, OneWriter}
use Rattle.row_machine.specs.Machine as M
use Rattle.row_machine.proofs.Basics.{member-any, any-member, has-member, member-has, true_or_false}
use Rattle.row_machine.proofs.Members.{member-map, member-filter, filter-member, member-back, append-member, one_writer-append}
use Rattle.sv_types.specs.declared.design.Design.{Design}
use Rattle.sv_types.specs.declared.design.Process.{Process}
use Rattle.sv_types.specs.declared.design.ProcessKind.{ProcessKind}
use Rattle.sv_types.specs.declared.design.ProcessKind.TheVariants.{Continuous, Link, Comb, Latch, Star, Edges}
use Rattle.sv_types.specs.declared.statement.Stmt.{Stmt}
use Rattle.sv_types.specs.Surroundings.{Use, is_signal}
use Rattle.sv_types.specs.Flows.{covered, covers, uses_of}
use Rattle.sv_types.specs.Statements.{doing}
use Rattle.sv_types.specs.Machine as SM
use Rattle.sv_types.specs.Machine.{parts, places, ProcessMeaning, process_meaning, comb_of, edge_of_kind, machine}
use Rattle.design_breaks.specs.Memories.{is_edged, flow, writes_of}
use Rattle.design_breaks.specs.Breaks.{unrolls, all_writes, meet, not_before, is_second, other_than, written_twice, only_if}
use Rattle.break_laws.specs.Laws.{BitsHaveOneWriter}
use Rattle.break_laws.proofs.Numbers.{is-a-signal}

-- two uses of one bit meet
pub meets : (u w : Use) (q : Place) → covers u q ≡ true → covers w q ≡ true → meet u w ≡ true
meets u w q h g = by u.number w.number q.signal u.low u.high w.low w.high q.bit h g
  where
    same : (a b n : ℕ) → (a == n) ≡ true → (b == n) ≡ true → (a == b) ≡ true
    same a b n x y = grind (arith, nat_tests)

    within : (la ha lb hb k : ℕ) → (nat_le la k && nat_lt k ha) ≡ true → (nat_le lb k && nat_lt k hb) ≡ true → nat_lt (max la lb) (min ha hb) ≡ true
    within la ha lb hb k x y = grind (arith, nat_tests)

    by : (a b n la ha lb hb k : ℕ) → ((a == n) && (nat_le la k && nat_lt k ha)) ≡ true → ((b == n) && (nat_le lb k && nat_lt k hb)) ≡ true
        → ((a == b) && nat_lt (max la lb) (min ha hb)) ≡ true
    by a b n la ha lb hb k x y =
        let p = and_parts (a == n) (nat_le la k && nat_lt k ha) x in
        let r = and_parts (b == n) (nat_le lb k && nat_lt k hb) y in
        and_from (a == b) (nat_lt (max la lb) (min ha hb)) (same a b n p.0 r.0) (within la ha lb hb k p.1 r.1)

-- of two positions one isn't before the other
in-some-order : (i at j to : ℕ) → (not_before i at j to ≡ true) ⊎ (not_before j to i at ≡ true)
in-some-order i at j to = elim (true_or_false (not_before i at j to)) [ inl h ↦ inl h | inr h ↦ inr (other h) ]
  where
    other : not_before i at j to ≡ false → (nat_lt i j || ((j == i) && nat_le at to)) ≡ true
    other h = grind (arith, nat_tests)

apart : (n m : ℕ) → (n < m) ⊎ (m < n) → (n == m) ≡ false
apart n m h = false_from_ne_true (n == m) (λ is. let same = eqb-true n m is in elim h [ inl x ↦ absurd (omega (arith, same, x)) | inr x ↦ absurd (omega (arith, same, x)) ])

module _ (d : Design) where
  -- all processes but one
  others : (n k j : ℕ) (ps : List Process) (r : Process) → slice_get ps j ≡ Some r → (n == k + j) ≡ false → Member (other_than d n k ps) r
  others n k j [] r h is = cc
  others n k zero (p ∷ ps) r h is =
      let same : r ≡ p = cc in
      let at : k + 0 ≡ k = omega arith in
      let not_it : (n == k) ≡ false = sym (ap (λ m. n == m) at) ∙ is in
      subst (λ b. Member (cond (not b) (p ∷ []) [] ++ other_than d n (suc k) ps) r) (sym not_it) (inl same)
  others n k (suc j) (p ∷ ps) r h is =
      let at : k + suc j ≡ suc k + j = omega arith in
      member-back (only_if (not (n == k)) (p ∷ [])) (other_than d n (suc k) ps) r (others n (suc k) j ps r h (sym (ap (λ m. n == m) at) ∙ is))

  -- a process that stands somewhere, can be unrolled and breaks no rule on two writers
  pub record Once (n : ℕ) (p : Process) : Type 0 where
    pub stands : slice_get d.processes n ≡ Some p
    pub can : unrolls d p.body ≡ true
    pub once : written_twice d n p ≡ []

  -- which of its uses writes a bit of a signal
  pub record UseOf (p : Process) (q : Place) : Type 0 where
    pub use_of : Use
    pub listed : Member (all_writes d p) use_of
    pub covers_it : covers use_of q ≡ true

  a-use : (n : ℕ) (p : Process) → Once n p → (q : Place) → is_signal q.signal ≡ true → covered (writes_of d p) q ≡ true → UseOf p q
  a-use n p o q signal written =
      let r = any-member (λ u. covers u q) (writes_of d p) written in
      let kept = filter (λ (u : Use). is_signal u.number) (writes_of d p) in
      let number = eqb-true r.0.number q.signal (and_parts (r.0.number == q.signal) (nat_le r.0.low q.bit && nat_lt q.bit r.0.high) r.2).0 in
      record {
        use_of = r.0;
        listed = subst (λ b. Member (cond b kept []) r.0) (sym o.can) (member-filter (λ (u : Use). is_signal u.number) (writes_of d p) r.0 r.1 (ap is_signal number ∙ signal));
        covers_it = r.2;
      }

  -- the later one of two writes breaks the rule
  later-breaks : (n m : ℕ) (p r : Process) → Once n p → Once m r → (n == m) ≡ false → (q : Place) (w : UseOf p q) (u : UseOf r q) → not_before p.instance w.use_of.at r.instance u.use_of.at ≡ true → ⊥
  later-breaks n m p r o o' is q w u late =
      let second = member-any (λ (x : Use). meet x w.use_of && not_before p.instance w.use_of.at r.instance x.at) (all_writes d r) u.use_of u.listed
      (and_from (meet u.use_of w.use_of) (not_before p.instance w.use_of.at r.instance u.use_of.at) (meets u.use_of w.use_of q u.covers_it w.covers_it) late) in
      let at : 0 + m ≡ m = omega arith in
      let some = member-any (is_second d p w.use_of) (other_than d n 0 d.processes) r (others n 0 m d.processes r o'.stands (ap (λ k. n == k) at ∙ is)) second in
      let breaking = λ (x : Use). list_any (is_second d p x) (other_than d n 0 d.processes) in
      subst (λ ts. Member ts w.use_of.at) o.once (member-map (λ (x : Use). x.at) (filter breaking (all_writes d p)) w.use_of (member-filter breaking (all_writes d p) w.use_of w.listed some))

  pub one-writes : (n m : ℕ) (p r : Process) → n < m → Once n p → Once m r → (q : Place) → is_signal q.signal ≡ true → covered (writes_of d p) q ≡ true → covered (writes_of d r) q ≡ true → ⊥
  one-writes n m p r below o o' q signal h g =
      let w = a-use n p o q signal h in
      let u = a-use m r o' q signal g in
      elim (in-some-order p.instance w.use_of.at r.instance u.use_of.at) [
        | inl late ↦ later-breaks n m p r o o' (apart n m (inl below)) q w u late
        | inr late ↦ later-breaks m n r p o' o (apart m n (inr below)) q u w late
      ]

  -- what the processes of the machine write
  abbrev WritesIts : Process → List Place → Type 0
  WritesIts p qs = (q : Place) → has qs q ≡ true → (has (places (parts d)) q ≡ true) × (covered (writes_of d p) q ≡ true)

  kept-writes : (us : List Use) (q : Place) → has (filter (covered us) (places (parts d))) q ≡ true → (has (places (parts d)) q ≡ true) × (covered us q ≡ true)
  kept-writes us q h =
      let r = filter-member (covered us) (places (parts d)) q (has-member (filter (covered us) (places (parts d))) q h) in
      (member-has (places (parts d)) q r.0, r.1)

  comb-writes : (kind : ProcessKind) (s : Stmt) (x : M.Process) → Member (comb_of (parts d) (doing s) kind) x → (is_edged kind ≡ false) × (x.writes ≡ SM.writes_of (parts d) (doing s))
  comb-writes Continuous s x (inl is) = (refl, ap (λ (y : M.Process). y.writes) is)
  comb-writes Continuous s x (inr m) = elim m [ ]
  comb-writes (Link port) s x (inl is) = (refl, ap (λ (y : M.Process). y.writes) is)
  comb-writes (Link port) s x (inr m) = elim m [ ]
  comb-writes Comb s x (inl is) = (refl, ap (λ (y : M.Process). y.writes) is)
  comb-writes Comb s x (inr m) = elim m [ ]
  comb-writes Latch s x (inl is) = (refl, ap (λ (y : M.Process). y.writes) is)
  comb-writes Latch s x (inr m) = elim m [ ]
  comb-writes Star s x (inl is) = (refl, ap (λ (y : M.Process). y.writes) is)
  comb-writes Star s x (inr m) = elim m [ ]
  comb-writes (Edges es) s x m = elim m [ ]

  edge-writes : (kind : ProcessKind) (s : Stmt) (x : M.EdgeProcess) → Member (edge_of_kind (parts d) (doing s) kind) x → (is_edged kind ≡ true) × (x.writes ≡ SM.later_writes_of (parts d) (doing s))
  edge-writes Continuous s x m = elim m [ ]
  edge-writes (Link port) s x m = elim m [ ]
  edge-writes Comb s x m = elim m [ ]
  edge-writes Latch s x m = elim m [ ]
  edge-writes Star s x m = elim m [ ]
  edge-writes (Edges es) s x (inl is) = (refl, ap (λ (y : M.EdgeProcess). y.writes) is)
  edge-writes (Edges es) s x (inr m) = elim m [ ]

  comb-its : (p : Process) (x : M.Process) → Member (comb_of (parts d) (doing p.body) p.kind) x → WritesIts p x.writes
  comb-its p x m q h =
      let two = comb-writes p.kind p.body x m in
      let kept = kept-writes (uses_of (flow d p).writes) q (sym (ap (λ qs. has qs q) two.1) ∙ h) in
      (kept.0, ap (λ b. covered (cond b (uses_of (flow d p).later) (uses_of (flow d p).writes)) q) two.0 ∙ kept.1)

  edge-its : (p : Process) (x : M.EdgeProcess) → Member (edge_of_kind (parts d) (doing p.body) p.kind) x → WritesIts p x.writes
  edge-its p x m q h =
      let two = edge-writes p.kind p.body x m in
      let kept = kept-writes (uses_of (flow d p).later) q (sym (ap (λ qs. has qs q) two.1) ∙ h) in
      (kept.0, ap (λ b. covered (cond b (uses_of (flow d p).later) (uses_of (flow d p).writes)) q) two.0 ∙ kept.1)

  -- a process makes at most one of the machine
  alone : {A : Type 0} (writes : A → List Place) (x : A) → OneWriter writes (x ∷ [])
  alone writes x = (λ q h y m. elim m [ ], tt)

  comb-alone : (p : ProcessMeaning) → OneWriter (λ (x : M.Process). x.writes) (comb_of (parts d) p.does p.kind)
  comb-alone p = by p.kind
    where
      by : (kind : ProcessKind) → OneWriter (λ (x : M.Process). x.writes) (comb_of (parts d) p.does kind)
      by Continuous = alone (λ (x : M.Process). x.writes) (SM.comb (parts d) true [] p.does)
      by (Link port) = alone (λ (x : M.Process). x.writes) (SM.comb (parts d) true [] p.does)
      by Comb = alone (λ (x : M.Process). x.writes) (SM.comb (parts d) true [] p.does)
      by Latch = alone (λ (x : M.Process). x.writes) (SM.comb (parts d) true [] p.does)
      by Star = alone (λ (x : M.Process). x.writes) (SM.comb (parts d) false (SM.names_of (parts d) p.does) p.does)
      by (Edges es) = tt

  edge-alone : (p : ProcessMeaning) → OneWriter (λ (x : M.EdgeProcess). x.writes) (edge_of_kind (parts d) p.does p.kind)
  edge-alone p = by p.kind
    where
      by : (kind : ProcessKind) → OneWriter (λ (x : M.EdgeProcess). x.writes) (edge_of_kind (parts d) p.does kind)
      by Continuous = tt
      by (Link port) = tt
      by Comb = tt
      by Latch = tt
      by Star = tt
      by (Edges es) = alone (λ (x : M.EdgeProcess). x.writes) (SM.edge (parts d) es p.does)

-- what a process at some place of a list makes
module _ {A : Type 0} (make : ProcessMeaning → List A) (writes : A → List Place) where
  pub record MadeAt (ps : List Process) (x : A) : Type 0 where
    pub at : ℕ
    pub process : Process
    pub stands : slice_get ps at ≡ Some process
    pub made : Member (make (process_meaning process)) x

  pub made-at : (ps : List Process) (x : A) → Member (flat_map make (map process_meaning ps)) x → MadeAt ps x
  made-at [] x m = elim m [ ]
  made-at (p ∷ ps) x m = elim (append-member (make (process_meaning p)) (flat_map make (map process_meaning ps)) x m) [
    | inl h ↦ record { at = 0; process = p; stands = refl; made = h }
    | inr h ↦ (let r = made-at ps x h in record { at = suc r.at; process = r.process; stands = r.stands; made = r.made })
  ]

  -- so what all of them make has one writer, if none of them makes two, and no two of them write one bit
  abbrev NoTwo : List Process → Type 0
  NoTwo ps = (n m : ℕ) (p r : Process) → n < m → slice_get ps n ≡ Some p → slice_get ps m ≡ Some r → (x : A) → Member (make (process_meaning p)) x → (y : A) → Member (make (process_meaning r)) y
      → (q : Place) → has (writes x) q ≡ true → has (writes y) q ≡ false

  pub one-of-all : ((p : ProcessMeaning) → OneWriter writes (make p)) → (ps : List Process) → NoTwo ps → OneWriter writes (flat_map make (map process_meaning ps))
  one-of-all each [] two = tt
  one-of-all each (p ∷ ps) two =
      one_writer-append writes (make (process_meaning p)) (flat_map make (map process_meaning ps)) (each (process_meaning p))
      (one-of-all each ps (λ n m r s below h g. two (suc n) (suc m) r s (omega (arith, below)) h g))
      (λ x mx q h y my. let r = made-at ps y my in two 0 (suc r.at) p r.process (omega arith) refl r.stands x mx y r.made q h)

pub one-writer : BitsHaveOneWriter
one-writer d few keeps = (
  one-of-all (λ (p : ProcessMeaning). comb_of (parts d) p.does p.kind) (λ (x : M.Process). x.writes) (comb-alone d) d.processes
      (λ n m p r below h g x mx y my q is. not-both n m p r below h g (x.writes) (comb-its d p x mx) (y.writes) (comb-its d r y my) q is),
  one-of-all (λ (p : ProcessMeaning). edge_of_kind (parts d) p.does p.kind) (λ (x : M.EdgeProcess). x.writes) (edge-alone d) d.processes
      (λ n m p r below h g x mx y my q is. not-both n m p r below h g (x.writes) (edge-its d p x mx) (y.writes) (edge-its d r y my) q is),
)
  where
    once : (n : ℕ) (p : Process) → slice_get d.processes n ≡ Some p → Once d n p
    once n p h = record { stands = h; can = (keeps n p h).0; once = (keeps n p h).1 }

    not-both : (n m : ℕ) (p r : Process) → n < m → slice_get d.processes n ≡ Some p → slice_get d.processes m ≡ Some r → (qs : List Place) → WritesIts d p qs → (rs : List Place) → WritesIts d r rs
        → (q : Place) → has qs q ≡ true → has rs q ≡ false
    not-both n m p r below h g qs its rs its' q is =
        false_from_ne_true (has rs q) (λ also. one-writes d n m p r below (once n p h) (once m r g) q (is-a-signal d few q (its q is).0) (its q is).1 (its' q also).1)
