-- The bits that processes may write, as marks.
use Rattle.std.proofs.Common.{◌≡◌, ℕ, zero, suc, ◌+◌, ◌<◌, ◌≤◌, Bool, true, false, ◌||◌, List, [], ◌∷◌, ◌++◌, length, flat_map, get_or, refl, sym, ap, ◌∙◌, subst, inl, inr, arith}
use Rattle.std.specs.List.{list_any}
use Rattle.std.proofs.lemmas.Bool.{cases_lt}
use Rattle.std.proofs.lemmas.Option.{get_or_from_slice_get}
use Rattle.bit_sets.specs.declared.span.Span.{Span}
use Rattle.row_machine.specs.Valuation.{Place}
use Rattle.round_runner.proofs.Elements.{element}
use Rattle.v_meaning.specs.Scopes.{Use}
use Rattle.v_meaning.specs.Statements.{covered, covers}
use Rattle.v_meaning.specs.Modules.{Process}
use Rattle.v_meaning.specs.Values.{is_empty}
use Rattle.v_exec.specs.Modules.{callee_in}
use Rattle.v_constants.specs.Constants.{AreQuiet}
use Rattle.v_eval.specs.declared.scopes.Scope.{Scope}
use Rattle.v_modules.specs.declared.table.Table.{Table}
use Rattle.v_processes.specs.declared.process.Proc.{Proc}
use Rattle.v_drives.specs.Designs.{AllByTable, all_made, process_made}
use Rattle.v_drives.specs.Quiet.{AreQuietIn}
use Rattle.v_drives.specs.Rows.{AreCovered, AreMarks}
use Rattle.cycle_dst.specs.declared.ground.Ground.{Ground}
use Rattle.cycle_dst.specs.Circuits.{Runnable}
use Rattle.cycle_dst.specs.Grounds.{processes_in, widths_in}
use Rattle.cycle_dst.specs.Written.{MarksAre, MarksOf}

-- what can be run has a table
pub by-table : (ws : List ℕ) (ts : List Table) (ps : List Proc) → Runnable ws ts ps → AllByTable ts ps
by-table ws ts ps runnable k p at =
    let one = runnable.each k p at in
    let t = element ts p.of one.there in
    let runs = one.runs t.0 t.1 in
    record { table = t.0; there = t.1; functions = runs.functions; narrow = runs.narrow }

any-append : {A : Type 0} (t : A → Bool) (xs ys : List A) → list_any t (xs ++ ys) ≡ (list_any t xs || list_any t ys)
any-append t [] ys = refl
any-append t (x ∷ xs) ys = ap (λ b. t x || b) (any-append t xs ys) ∙ sym (or-assoc (t x) (list_any t xs) (list_any t ys))
  where
    or-assoc : (a b c : Bool) → ((a || b) || c) ≡ (a || (b || c))
    or-assoc true b c = refl
    or-assoc false b c = refl

any-flat : {A B : Type 0} (t : B → Bool) (f : A → List B) (xs : List A) → list_any t (flat_map f xs) ≡ list_any (λ x. list_any t (f x)) xs
any-flat t f [] = refl
any-flat t f (x ∷ xs) = any-append t (f x) (flat_map f xs) ∙ ap (λ b. list_any t (f x) || b) (any-flat t f xs)

any-both : {A : Type 0} (s t : A → Bool) (xs : List A) → (list_any s xs || list_any t xs) ≡ list_any (λ x. s x || t x) xs
any-both s t [] = refl
any-both s t (x ∷ xs) = between (s x) (t x) (list_any s xs) (list_any t xs) ∙ ap (λ b. (s x || t x) || b) (any-both s t xs)
  where
    between : (a b c d : Bool) → ((a || c) || (b || d)) ≡ ((a || b) || (c || d))
    between true b c d = refl
    between false true true d = refl
    between false true false d = refl
    between false false c d = refl

-- what processes make at once and later
made-written : (ps : List Process) (q : Place) → covered (all_made false ps ++ all_made true ps) q
    ≡ list_any (λ (p : Process). covered (p.does.writes p.scope) q || covered (p.does.later p.scope) q) ps
made-written ps q =
    any-append (λ (u : Use). covers u q) (all_made false ps) (all_made true ps)
    ∙ ap (λ b. b || list_any (λ (u : Use). covers u q) (all_made true ps)) (any-flat (λ (u : Use). covers u q) (process_made false) ps)
    ∙ ap (λ b. list_any (λ (p : Process). covered (process_made false p) q) ps || b) (any-flat (λ (u : Use). covers u q) (process_made true) ps)
    ∙ any-both (λ (p : Process). covered (process_made false p) q) (λ (p : Process). covered (process_made true p) q) ps

pub marks-of : (g : Ground) (us : List Use) (ws : List ℕ) (ms : List (List Bool)) → us ≡ all_made false (processes_in g) ++ all_made true (processes_in g) → ws ≡ widths_in g → MarksAre ws us ms → MarksOf g ms
marks-of g us ws ms is wide marks = record {
  value = λ q inside.
      marks.value q (subst (λ (l : List ℕ). q.bit < get_or l q.signal 0) (sym wide) inside) ∙ ap (λ l. covered l q) is ∙ made-written (processes_in g) q;
}

-- marks signal by signal
pub record MarkedTo (ws : List ℕ) (set : List Span) (n : ℕ) (ms : List (List Bool)) : Type 0 where
  pub long : length ms ≡ n
  pub each : (m : ℕ) → m < n → (us : List Use) → AreCovered ws us set → AreMarks us m (get_or ws m 0) (get_or ms m [])

pub none-marked : (ws : List ℕ) (set : List Span) (ms : List (List Bool)) → ms ≡ [] → MarkedTo ws set 0 ms
none-marked ws set ms e = record { long = ap length e; each = λ m h. absurd (omega (arith, h)) }

pub one-marked : (ws : List ℕ) (set : List Span) (n : ℕ) (ms : List (List Bool)) (marks : List Bool) → ((us : List Use) → AreCovered ws us set → AreMarks us n (get_or ws n 0) marks) → MarkedTo ws set n ms
    → MarkedTo ws set (n + 1) (ms ++ marks ∷ [])
one-marked ws set n ms marks here before = record {
  long = pushed ms marks ∙ ap (λ k. k + 1) before.long;
  each = λ m h us covered_by. elim (cases_lt m n) [
    | inl less ↦ subst (AreMarks us m (get_or ws m 0)) (sym (front ms marks m (let long = before.long in omega (arith, long, less)))) (before.each m less us covered_by)
    | inr past ↦
        let same : n ≡ m = omega (arith, h, past) in
        subst (λ k. AreMarks us k (get_or ws k 0) (get_or (ms ++ marks ∷ []) k [])) same
        (subst (AreMarks us n (get_or ws n 0)) (sym (last ms marks n before.long)) (here us covered_by))
  ];
}
  where
    pushed : (xs : List (List Bool)) (x : List Bool) → length (xs ++ x ∷ []) ≡ length xs + 1
    pushed [] x = refl
    pushed (y ∷ xs) x = ap suc (pushed xs x) ∙ omega arith

    front : (xs : List (List Bool)) (x : List Bool) (m : ℕ) → m < length xs → get_or (xs ++ x ∷ []) m [] ≡ get_or xs m []
    front [] x m h = absurd (omega (arith, h))
    front (y ∷ xs) x zero h = refl
    front (y ∷ xs) x (suc m) h = front xs x m (omega (arith, h))

    last : (xs : List (List Bool)) (x : List Bool) (n : ℕ) → length xs ≡ n → get_or (xs ++ x ∷ []) n [] ≡ x
    last [] x zero e = refl
    last [] x (suc n) e = absurd (omega (arith, e))
    last (y ∷ xs) x zero e = absurd (omega (arith, e))
    last (y ∷ xs) x (suc n) e = last xs x n (omega (arith, e))

pub all-marked : (ws : List ℕ) (set : List Span) (n : ℕ) (ms : List (List Bool)) → length ws ≤ n → MarkedTo ws set n ms → (us : List Use) → AreCovered ws us set → MarksAre ws us ms
all-marked ws set n ms all marks us covered_by = record {
  value = λ q inside.
      let there = signal-there ws q.signal q.bit inside in
      let are = marks.each q.signal (omega (arith, there, all)) us covered_by in
      get_or_from_slice_get (get_or ms q.signal []) q.bit (covered us q) false (are.value q.bit inside);
}
  where
    signal-there : (l : List ℕ) (n b : ℕ) → b < get_or l n 0 → n < length l
    signal-there [] n b h = absurd (omega (arith, h))
    signal-there (w ∷ l) zero b h = omega arith
    signal-there (w ∷ l) (suc n) b h = let more = signal-there l n b h in omega (arith, more)

pub quiet-in : (s : Scope) (first : ℕ) (t : Table) (quiet : List Bool) → s.first ≡ first → s.depth ≡ t.functions → s.module.now ≡ t.names → AreQuiet s quiet → AreQuietIn first t quiet
quiet-in s first t quiet e f g h = record {
  right = λ i. h.right i ∙ ap is_empty (λ k. (callee_in (e k) (f k) (g k) i).reads);
}

pub ruleset quiet = (quiet-in)

pub ruleset counting = (by-table)

pub ruleset marking = (marks-of)
