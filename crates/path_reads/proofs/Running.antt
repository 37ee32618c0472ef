-- Runs of bits of one kind of store, one after another.
use Rattle.std.proofs.Common.{◌≡◌, ℕ, zero, suc, ◌+◌, ◌-◌, ◌<◌, ◌≤◌, max, min, Bool, true, false, cond, ℤ, pos, ◌+ℤ◌, List, [], ◌∷◌, ◌++◌, append_assoc, append-nil, length, replicate, refl, arith, ap, sym, ◌∙◌, subst}
use Rattle.std.specs.Prelude.{slice_index_or, nat_lt}
use Rattle.std.proofs.lemmas.List.{length-replicate}
use Rattle.b4_core.specs.declared.bit.Bit4.{Bit4}
use Rattle.b4_core.specs.declared.bit.Bit4.TheVariants.{X, Zero}
use Rattle.picks.specs.Windows.{Window, whole, nowhere, part, at_least_0, seen}
use Rattle.sv_types.specs.declared.types.SvType.{SvType}
use Rattle.sv_types.specs.Layouts.{layout, width_of, stored}
use Rattle.sv_types.proofs.Picks.{length-tabulated}
use Rattle.sv_types.proofs.Stored.{length-stored}
use Rattle.v_tree.specs.declared.expressions.VExpr.{VExpr}
use Rattle.v_tree.specs.declared.names.Helper.{Helper}
use Rattle.v_tree.specs.declared.names.HelperKind.TheVariants.{TwoState}
use Rattle.v_build.specs.Trees.{meanings}
use Rattle.v_meaning.specs.Scopes.{Scope}
use Rattle.v_meaning.specs.Values as T
use Rattle.eval_parts.specs.declared.paths.Window.{Window as Span}
use Rattle.eval_parts.specs.Places.{window_of}
use Rattle.lowering_laws.specs.Same.{HasBits}
use Rattle.lowering_laws.proofs.Paths.{stored-four-bits}
use Rattle.lowering_laws.proofs.WriteAt.{part-tight}
use Rattle.path_flatten.specs.declared.readings.Reading.{Reading}
use Rattle.path_flatten.specs.declared.readings.Root.TheVariants as R
use Rattle.path_flatten.specs.Helping.{Grows}
use Rattle.path_flatten.specs.Naming.{SameNumbers, NamesLike, NamesRoot}
use Rattle.path_flatten.specs.Reading.{HasRoot, StaysIn}
use Rattle.path_flatten.specs.Selecting.{CutsValue, ReadsAll}
use Rattle.path_flatten.specs.Storing.{AllAre, IsHelperCall, StoresRun}
use Rattle.path_flatten.proofs.Helping.{helps-before}
use Rattle.path_flatten.proofs.Naming.{same-itself, same-then, same-joined, same-twice}
use Rattle.path_flatten.proofs.Runs.{mark-four, slice-tabulated, from-none, from-next, from-all}
use Rattle.path_flatten.proofs.Sees.{stays-of}
use Rattle.path_flatten.proofs.Storing.{run-four, run-two, two-call, are-all, all-four, stores-four, stores-two}
use Rattle.path_reads.specs.declared.runs.Run.{Run}
use Rattle.path_reads.specs.Running.{KeepsBits, IsRunBelow, IsRun, StoresOne, StoresMarks, StoresAll, NamesAll}

-- a part of all bits ends where they do
trimmed-inside : (path : Window) (high : ℕ) (b : Bool) → path.high ≤ high → (cond b path nowhere).high ≤ high
trimmed-inside path high true h = h
trimmed-inside path high false h = omega arith

part-inside : (o : ℤ) (n w : ℕ) → (part o n (whole w)).high ≤ w
part-inside o n w =
    let path = whole w in
    let low = max path.low (at_least_0 (path.shift +ℤ o)) in
    let high = min path.high (at_least_0 ((path.shift +ℤ o) +ℤ pos n)) in
    trimmed-inside (record { shift = path.shift +ℤ o; low = low; high = high }) w (nat_lt low high) (omega arith)

pub high-by : (p : Span) (o : ℤ) (n w : ℕ) → window_of p ≡ part o n (whole w) → p.high ≤ w
high-by p o n w window =
    let same : p.high ≡ (part o n (whole w)).high = ap (λ (q : Window). q.high) window in
    let least = part-inside o n w in
    omega arith

-- so many bits of an expression, as a reading of it
pub cuts-by : (x : VExpr) (m r : T.Meaning) (w low n : ℕ) (reading : Reading) (hs : List Helper) → reading.root ≡ R.Value x → T.meaning x ≡ m → reading.width ≡ w
    → window_of reading.window ≡ part (pos low) n (whole w) → n ≤ 4194304 → ReadsAll reading n hs r → CutsValue m w low n hs r
cuts-by x m r w low n reading hs root same width window few all c sc v has long fits some helps =
    let own : HasRoot reading.root reading.width c sc v =
    subst (λ k. HasRoot reading.root k c sc v) (sym width) (subst (λ y. HasRoot y w c sc v) (sym root) (subst (λ (y : T.Meaning). HasBits y c sc v) (sym same) has)) in
    let stays : StaysIn (window_of reading.window) n = subst (λ p. StaysIn p n) (sym window) (stays-of (part (pos low) n (whole w)) n (part-tight (pos low) n (whole w))) in
    subst (λ p. HasBits r (seen c p n) sc v) window
    (all c sc v own (long ∙ sym width) (subst (λ k. reading.window.high ≤ k) (sym width) (high-by reading.window (pos low) n w window)) some few stays helps)

pub like-by-root : (x : VExpr) (m r : T.Meaning) (reading : Reading) → reading.root ≡ R.Value x → T.meaning x ≡ m → NamesRoot reading.root r → NamesLike m r
like-by-root x m r reading root same names = subst (λ (y : T.Meaning). NamesLike y r) same (subst (λ y. NamesRoot y r) root names)

-- a bit of which x isn't kept is two-state
mark-other : (bs : List Bool) (j : ℕ) → j < length bs → (slice_index_or (stored bs (replicate (length bs) X)) j X ≡ X → ⊥) → slice_index_or bs j false ≡ true
mark-other [] j less h = absurd (omega arith)
mark-other (true ∷ bs) zero less h = refl
mark-other (false ∷ bs) zero less h = absurd (h refl)
mark-other (b ∷ bs) (suc j) less h = mark-other bs j (omega arith) h

-- a run as it is stored: as it is, or by one call
pub one-four : (m : T.Meaning) (r : Run) (hs : List Helper) (p : T.Meaning) → r.two_state ≡ false → CutsValue m r.all r.low r.bits hs p → StoresOne m r hs p
one-four m r hs p four cuts bs run fits some c sc v has long helps =
    subst (λ x. HasBits p x sc v)
    (slice-tabulated c r.all r.low r.bits fits ∙ run-four bs c r.low r.bits (λ j less. run j less ∙ four))
    (cuts c sc v has long fits some helps)

pub one-two : (m : T.Meaning) (r : Run) (old hs : List Helper) (x p : T.Meaning) → r.two_state ≡ true → CutsValue m r.all r.low r.bits old x → Grows old hs
    → IsHelperCall (record { kind = TwoState; width = r.bits }) x hs p → StoresOne m r hs p
one-two m r old hs x p two cuts grows call bs run fits some c sc v has long helps =
    let cut = subst (λ y. HasBits x y sc v) (slice-tabulated c r.all r.low r.bits fits) (cuts c sc v has long fits some (helps-before old hs sc grows helps)) in
    subst (λ y. HasBits p y sc v) (run-two bs c r.low r.bits (λ j less. run j less ∙ two))
    (two-call r.bits (record { kind = TwoState; width = r.bits }) x hs p _ sc v refl some call cut (length-tabulated r.bits _) helps)

-- what a mark says of all bits of its run
run-of : (marks : List Bit4) (high : ℕ) (r : Run) → IsRunBelow marks high r → high ≤ length marks → (bs : List Bool) → marks ≡ stored bs (replicate (length bs) X) → IsRun r bs
run-of marks high r is few bs of j within =
    let size = is.bits in
    let some = is.some in
    let same : slice_index_or (stored bs (replicate (length bs) X)) (r.low + j) X ≡ slice_index_or marks (high - 1) X =
    sym (ap (λ x. slice_index_or x (r.low + j) X) of) ∙ is.same (r.low + j) (omega arith) (omega arith) in
    let long = ap length of ∙ length-stored bs (replicate (length bs) X) (length-replicate (length bs) X) in
    by r.two_state refl same (omega arith)
  where
    by : (b : Bool) → r.two_state ≡ b → slice_index_or (stored bs (replicate (length bs) X)) (r.low + j) X ≡ slice_index_or marks (high - 1) X → r.low + j < length bs
        → slice_index_or bs (r.low + j) false ≡ r.two_state
    by true b same inside = mark-other bs (r.low + j) inside (λ e. is.two b (sym same ∙ e)) ∙ sym b
    by false b same inside = mark-four bs (r.low + j) (same ∙ is.four b) ∙ sym b

pub marks-none : (m : T.Meaning) (marks : List Bit4) (high : ℕ) (hs : List Helper) → high ≡ length marks → StoresMarks m marks high hs []
marks-none m marks high hs is bs of = from-none m bs (length marks) high hs is

pub marks-next : (m : T.Meaning) (marks : List Bit4) (high : ℕ) (old hs : List Helper) (ms : List T.Meaning) (p : T.Meaning) (r : Run) → IsRunBelow marks high r → high ≤ length marks
    → Grows old hs → StoresMarks m marks high old ms → StoresOne m r hs p → StoresMarks m marks r.low hs (ms ++ p ∷ [])
marks-next m marks high old hs ms p r is few grows from one bs of =
    let some = is.some in
    let size = is.bits in
    let all = is.all in
    let stores : StoresRun m bs (length marks) r.low (high - r.low) hs p =
    subst (λ k. StoresRun m bs (length marks) r.low k hs p) is.bits (subst (λ n. StoresRun m bs n r.low r.bits hs p) is.all (one bs (run-of marks high r is few bs of) (omega arith) (omega arith))) in
    from-next m bs (length marks) r.low high old hs ms p is.some few grows (from bs of) stores

-- Pieces name nothing else than an expression does, and if there is one, all of that.
pub record NamesPieces (m : T.Meaning) (ms : List T.Meaning) (n high : ℕ) : Type 0 where
  pub only : (sc : Scope) → SameNumbers (m.names sc) (T.all_names ms sc ++ m.names sc)
  pub all : (sc : Scope) → high < n → SameNumbers (m.names sc) (T.all_names ms sc)

pub pieces-none : (m : T.Meaning) (n high : ℕ) → high ≡ n → NamesPieces m [] n high
pieces-none m n high is = record { only = λ sc. same-itself (m.names sc); all = λ sc less. absurd (omega arith) }

named-more : (ms : List T.Meaning) (p : T.Meaning) (sc : Scope) → T.all_names (ms ++ p ∷ []) sc ≡ T.all_names ms sc ++ p.names sc
named-more [] p sc = append-nil (p.names sc)
named-more (m ∷ ms) p sc = ap (λ l. m.names sc ++ l) (named-more ms p sc) ∙ sym (append_assoc (m.names sc) (T.all_names ms sc) (p.names sc))

pub pieces-next : (m : T.Meaning) (ms : List T.Meaning) (p : T.Meaning) (n low high : ℕ) → NamesPieces m ms n high → NamesLike m p → NamesPieces m (ms ++ p ∷ []) n low
pieces-next m ms p n low high h like = record {
  only = λ sc.
      (let as_ = T.all_names ms sc in
      let own = m.names sc in
      let new = p.names sc in
      let more = same-joined as_ as_ own (new ++ own) (same-itself as_) (same-twice own new own (like sc) (same-itself own)) in
      let all = same-then own (as_ ++ own) (as_ ++ (new ++ own)) (h.only sc) more in
      subst (SameNumbers own) (sym (ap (λ l. l ++ own) (named-more ms p sc) ∙ append_assoc as_ new own)) all);
  all = λ sc less.
      (let as_ = T.all_names ms sc in
      let own = m.names sc in
      let new = p.names sc in
      let more = same-joined as_ as_ own new (same-itself as_) (like sc) in
      subst (SameNumbers own) (sym (named-more ms p sc)) (same-then own (as_ ++ own) (as_ ++ new) (h.only sc) more));
}

pub pieces-all : (m : T.Meaning) (ms : List T.Meaning) (n high : ℕ) → NamesPieces m ms n high → high < n → NamesAll m ms
pieces-all m ms n high h some sc = h.all sc some

concat-named : (ms : List T.Meaning) (sc : Scope) → (T.concatenation ms).names sc ≡ T.all_names ms sc
unfolding T.concatenation
concat-named ms sc = refl

pub like-concat : (m : T.Meaning) (ms : List T.Meaning) (r : T.Meaning) → NamesAll m ms → r ≡ T.concatenation ms → NamesLike m r
like-concat m ms r all is sc = subst (SameNumbers (m.names sc)) (sym (ap (λ (x : T.Meaning). x.names sc) is ∙ concat-named ms sc)) (all sc)

-- there are as many marks as the type has bits
marks-long : (t : SvType) (marks : List Bit4) → marks ≡ stored (layout t).two_state (replicate (width_of t) X) → length marks ≡ width_of t
marks-long t marks is = ap length is ∙ length-stored (layout t).two_state (replicate (width_of t) X) (length-replicate (width_of t) X)

-- a type that keeps each x has no two-state bit
pub keeps-bits : (t : SvType) (marks : List Bit4) → marks ≡ stored (layout t).two_state (replicate (width_of t) X) → AllAre X marks → KeepsBits t
keeps-bits t marks is all c long = stored-four-bits (layout t).two_state c (all-four (layout t).two_state (sym is ∙ are-all X marks all ∙ ap (λ n. replicate n X) (marks-long t marks is))) long

-- bits that are all of one kind of store, and others
pub marked-four : (m : T.Meaning) (marks : List Bit4) (hs : List Helper) → AllAre X marks → StoresAll m marks hs m
marked-four m marks hs all t is = stores-four t m hs marks is (are-all X marks all ∙ ap (λ n. replicate n X) (marks-long t marks is))

pub marked-two : (m : T.Meaning) (marks : List Bit4) (n : ℕ) (hs : List Helper) (r : T.Meaning) → AllAre Zero marks → n ≡ length marks → IsHelperCall (record { kind = TwoState; width = n }) m hs r → StoresAll m marks hs r
marked-two m marks n hs r all size call t is =
    let long = size ∙ marks-long t marks is in
    stores-two t (record { kind = TwoState; width = n }) m hs r marks is (are-all Zero marks all ∙ ap (λ k. replicate k Zero) (marks-long t marks is))
    (λ i. record { kind = TwoState; width = long i }) call

pub marked-runs : (m : T.Meaning) (marks : List Bit4) (hs : List Helper) (ms : List T.Meaning) (r : T.Meaning) → StoresMarks m marks 0 hs ms → r ≡ T.concatenation ms → StoresAll m marks hs r
marked-runs m marks hs ms r runs made t is c sc v has long some helps =
    let size = marks-long t marks is in
    subst (λ (y : T.Meaning). HasBits y (stored (layout t).two_state c) sc v) (sym made)
    (from-all m (layout t).two_state (length marks) hs ms c sc v (sym size) (runs (layout t).two_state is) has (long ∙ sym size) helps)

pub meanings-next : (es : List VExpr) (e : VExpr) → meanings (es ++ e ∷ []) ≡ meanings es ++ T.meaning e ∷ []
meanings-next [] e = refl
meanings-next (x ∷ es) e = ap (λ l. T.meaning x ∷ l) (meanings-next es e)
