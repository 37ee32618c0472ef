-- Which signals processes read and may write.
use Rattle.std.proofs.Common.{◌≡◌, ℕ, ◌+◌, ◌<◌, ◌≤◌, true, false, List, [], ◌∷◌, ◌++◌, length, take, take_all, get_or, Option, Some, None, slice_get, refl, sym, ap, ◌∙◌, subst, arith}
use Rattle.std.specs.Prelude.{IfSome}
use Rattle.std.proofs.lemmas.List.{take_more}
use Rattle.std.proofs.lemmas.Option.{slice_get_within, get_or_from_slice_get}
use Rattle.round_runner.proofs.Elements.{element}
use Rattle.round_runner.specs.Parts.{ReadsAlone, WritesAlone}
use Rattle.row_machine.specs.Machine as M
use Rattle.row_machine.specs.Valuation.{Valuation, Changes, Place}
use Rattle.v_hangs.specs.Hangs.{FunctionsReadIn, HangsOn, WritesIn}
use Rattle.v_drives.specs.Designs.{ByTable}
use Rattle.v_drives.specs.Quiet.{AreQuietIn}
use Rattle.v_meaning.specs.Machine.{to_signals}
use Rattle.v_modules.specs.declared.table.Table.{Table}
use Rattle.v_processes.specs.declared.process.Proc.{Proc}
use Rattle.v_steps.specs.Steps.{ran}
use Rattle.cycle_dst.specs.declared.combs.Comb.{Comb}
use Rattle.cycle_dst.specs.declared.prints.Known.{Known}
use Rattle.cycle_dst.specs.declared.prints.Prints.{Prints}
use Rattle.cycle_dst.specs.Circuits.{CombOf, Runnable, process_in}
use Rattle.cycle_dst.specs.Pairs.{Pairs}
use Rattle.cycle_dst.specs.Prints.{AllPrints, IsKnown, KnownFor, PrintsBy, PrintsIn, PrintsOf}
use Rattle.cycle_dst.proofs.Pairs.{no-pairs, pairs-push}

-- before the first process nothing is known
pub none-known : (ts : List Table) (k : Known) → k.of ≡ length ts → IsKnown ts k
none-known ts k e = record {
  reads = λ t h. absurd (let below = slice_get_within ts k.of t h in omega (arith, below, e));
  quiet = λ t h. absurd (let below = slice_get_within ts k.of t h in omega (arith, below, e));
}

pub known-for : (ts : List Table) (q : Proc) (t : Table) (k : Known) → slice_get ts q.of ≡ Some t → k.of ≡ q.of → k.first ≡ q.first → FunctionsReadIn q.first t k.reads → AreQuietIn q.first t k.quiet → KnownFor ts q k
known-for ts q t k there of first reads quiet = record {
  known = record {
    reads = λ s h. subst (λ (x : Table). FunctionsReadIn k.first x k.reads) (same s h) (subst (λ n. FunctionsReadIn n t k.reads) (sym first) reads);
    quiet = λ s h. subst (λ (x : Table). AreQuietIn k.first x k.quiet) (same s h) (subst (λ n. AreQuietIn n t k.quiet) (sym first) quiet);
  };
  of = of;
  first = first;
}
  where
    same : (s : Table) → slice_get ts k.of ≡ Some s → t ≡ s
    same s h = let at = sym there ∙ ap (slice_get ts) (sym of) ∙ h in cc

-- what is known of the instance of a process
module _ (ts : List Table) (q : Proc) (t : Table) (k : Known) (there : slice_get ts q.of ≡ Some t) (known : KnownFor ts q k) where
  pub known-reads : FunctionsReadIn q.first t k.reads
  known-reads = subst (λ n. FunctionsReadIn n t k.reads) known.first (known.known.reads t (ap (slice_get ts) known.of ∙ there))

  pub known-quiet : AreQuietIn q.first t k.quiet
  known-quiet = subst (λ n. AreQuietIn n t k.quiet) known.first (known.known.quiet t (ap (slice_get ts) known.of ∙ there))

some-of : {A : Type 0} (P : A → Type 0) (o : Option A) (x : A) → o ≡ Some x → IfSome o P → P x
some-of P None x e h = absurd (cc)
some-of P (Some y) x e h = let same : y ≡ x = cc in subst P same h

pub prints-by : (q : Proc) (t : Table) (p : Prints) → IfSome p.reads (HangsOn (process_in q t)) → IfSome p.writes (WritesIn (process_in q t)) → PrintsBy q t p
prints-by q t p reads writes = record {
  reads = λ ns e. some-of (HangsOn (process_in q t)) p.reads ns e reads;
  writes = λ ns e. some-of (WritesIn (process_in q t)) p.writes ns e writes;
}

pub prints-in : (ts : List Table) (q : Proc) (t : Table) (p : Prints) → slice_get ts q.of ≡ Some t → PrintsBy q t p → PrintsIn ts q p
prints-in ts q t p there by = record {
  by = λ s h. let same : t ≡ s = cc in subst (λ (x : Table). PrintsBy q x p) same by;
}

-- that is so of the machine's process
pub prints-of : (ws : List ℕ) (ts : List Table) (ps : List Proc) (c : Comb) (m : M.Process) (q : Proc) (t : Table) (p : Prints) → CombOf ws ts ps c m → slice_get ps c.process ≡ Some q → slice_get ts q.of ≡ Some t
    → PrintsBy q t p → PrintsOf p m
prints-of ws ts ps c m q t p comb here there by = record {
  reads = λ ns e v u same r.
      ap (λ (x : Changes). x r) (comb.assigns q t here there v)
      ∙ ap (λ s. to_signals s.written r) ((by.reads ns e).same v u same)
      ∙ sym (ap (λ (x : Changes). x r) (comb.assigns q t here there u));
  writes = λ ns e v r other. ap (λ (x : Changes). x r) (comb.assigns q t here there v) ∙ (by.writes ns e).none v r other;
}

-- process by process
module _ (ws : List ℕ) (ts : List Table) (ps : List Proc) (cs : List Comb) (ms : List M.Process) (combs : Pairs (CombOf ws ts ps) cs ms) where
  pub comb-below : (k : ℕ) (c : Comb) → slice_get cs k ≡ Some c → c.process < length ps
  comb-below k c at =
      let below = slice_get_within cs k c at in
      let m = element ms k (let long = combs.long in omega (arith, below, long)) in
      (combs.each k c m.0 at m.1).there

  pub prints-more : (k : ℕ) (c : Comb) (q : Proc) (p : Prints) (prints : List Prints) → Runnable ws ts ps → slice_get cs k ≡ Some c → slice_get ps c.process ≡ Some q → PrintsIn ts q p
      → AllPrints prints (take k ms) → AllPrints (prints ++ p ∷ []) (take (k + 1) ms)
  prints-more k c q p prints runnable at here by before =
      let below = slice_get_within cs k c at in
      let inside : k < length ms = let long = combs.long in omega (arith, below, long) in
      let m = element ms k inside in
      let t = element ts q.of (runnable.each c.process q here).there in
      let next : take (k + 1) ms ≡ take k ms ++ m.0 ∷ [] = take_more ms k m.0 inside ∙ ap (λ (x : M.Process). take k ms ++ x ∷ []) (get_or_from_slice_get ms k m.0 m.0 m.1) in
      subst (AllPrints (prints ++ p ∷ [])) (sym next)
      (pairs-push PrintsOf prints (take k ms) p m.0 before (prints-of ws ts ps c m.0 q t.0 p (combs.each k c m.0 at m.1) here t.1 (by.by t.0 t.1)))

  pub prints-all : (k : ℕ) (prints : List Prints) → length cs ≤ k → AllPrints prints (take k ms) → AllPrints prints ms
  prints-all k prints end before = subst (AllPrints prints) (take_all k ms (let long = combs.long in omega (arith, end, long))) before

-- at the place of a process
module _ (prints : List Prints) (ms : List M.Process) (are : AllPrints prints ms) (i : ℕ) (p : Prints) (at : slice_get prints i ≡ Some p) where
  pub reads-alone : (ns : List ℕ) → p.reads ≡ Some ns → ReadsAlone ms i ns
  reads-alone ns e = record { alone = λ m there. (are.each i p m at there).reads ns e }

  pub writes-alone : (ns : List ℕ) → p.writes ≡ Some ns → WritesAlone ms i ns
  writes-alone ns e = record { none = λ m there. (are.each i p m at there).writes ns e }

pub ruleset starting = (none-known)

pub ruleset finding = (known-for)

pub ruleset printing = (prints-by)

pub ruleset placing = (known-reads, known-quiet, prints-in)
