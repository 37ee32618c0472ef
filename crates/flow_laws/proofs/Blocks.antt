-- Runs of blocks with locals, and of calls of tasks and void functions.
use Rattle.std.proofs.Common.{◌≡◌, ℕ, suc, Bool, true, List, [], ◌∷◌, ◌++◌, map, length, Option, Some, None, refl, ap, sym, ◌∙◌, arith}
use Rattle.std.proofs.lemmas.Bool.{true≢false}
use Rattle.b4_core.specs.declared.bit.Bit4.{Bit4}
use Rattle.b4_core.specs.Vectors.{ext}
use Rattle.sv_types.specs.declared.expression.Expr.{Expr}
use Rattle.sv_types.specs.declared.statement.Local.{Local}
use Rattle.sv_types.specs.declared.statement.Way.{Way}
use Rattle.sv_types.specs.declared.statement.Way.TheVariants as Y
use Rattle.sv_types.specs.Surroundings.{Around, Sight, Parameter, Callee}
use Rattle.sv_types.specs.Meanings.{Meaning, wide}
use Rattle.sv_types.specs.Expressions.{meaning}
use Rattle.sv_types.specs.Runs as R
use Rattle.sv_types.specs.Runs.{Run, State, current, is_normal, one_of, idle, copy_out, copied_out, copies_out, taken_in, all_taken_in}
use Rattle.sv_types.specs.Flows as F
use Rattle.sv_types.specs.Flows.{Flow, Flows, covered, uses_of, reads_in, all_read_in, writes_out, all_written_out}
use Rattle.sv_types.specs.Statements.{initial_of, marks_of, scope_flow}
use Rattle.flow_laws.specs.Hangs.{Seen, Agree, Hangs}
use Rattle.flow_laws.specs.Places.{IsPlace}
use Rattle.flow_laws.specs.Runs.{Variables, Starts, Conforms, Apart}
use Rattle.flow_laws.proofs.Agreeing as A
use Rattle.flow_laws.proofs.Plain.{AllHang}
use Rattle.flow_laws.proofs.Hanging.{hangs}
use Rattle.flow_laws.proofs.Placing.{AllPlaces}
use Rattle.flow_laws.proofs.Running as U
use Rattle.flow_laws.proofs.Branching as B
use Rattle.flow_laws.proofs.Scopes as C
use Rattle.flow_laws.proofs.Scopes.{Part, part_runs, part_flows, HangsOrNone}

-- what a local starts with
pub initial-hangs : (l : Local) → HangsOrNone (initial_of l)
initial-hangs l = by l.initial
  where
    by : (o : Option Expr) → HangsOrNone (elim o [ None ↦ None | Some e ↦ Some (meaning e) ])
    by None = tt
    by (Some e) = hangs e

abbrev pub local_runs : List Local → List Run
local_runs ls = map (λ (l : Local). R.start l.number (marks_of l) (initial_of l)) ls

-- the inputs of a call
taken-alike : (w : Way) (marks : List Bool) (m : Meaning) (k : Sight) (a b : Around) → Hangs m → Seen k a → Seen k b → Agree (reads_in w m k) a b → taken_in w marks m a ≡ taken_in w marks m b
taken-alike Y.Input marks m k a b h sa sb agree = C.assigned-alike marks m k a b h sa sb agree
taken-alike Y.Output marks m k a b h sa sb agree = refl
taken-alike Y.Inout marks m k a b h sa sb agree = C.assigned-alike marks m k a b h sa sb agree

all-taken-alike : (ps : List Parameter) (ms : List Meaning) (k : Sight) (a b : Around) → AllHang ms → Seen k a → Seen k b → Agree (all_read_in ps ms k) a b → all_taken_in ps ms a ≡ all_taken_in ps ms b
all-taken-alike [] ms k a b h sa sb agree = refl
all-taken-alike (p ∷ ps) [] k a b h sa sb agree = refl
all-taken-alike (p ∷ ps) (m ∷ ms) k a b h sa sb agree =
    ap (λ v. v ∷ all_taken_in ps ms a) (taken-alike p.way p.two_state m k a b h.0 sa sb (A.agree-left (reads_in p.way m k) (all_read_in ps ms k) a b agree))
    ∙ ap (λ vs. taken_in p.way p.two_state m b ∷ vs) (all-taken-alike ps ms k a b h.1 sa sb (A.agree-right (reads_in p.way m k) (all_read_in ps ms k) a b agree))

shorter : (m n : ℕ) → suc m ≡ suc n → m ≡ n
shorter m n e = omega arith

module _ (vars : Variables) where
  pub unset-conforms : (k : Sight) (r : Run) (n : ℕ) (marks : List Bool) (first : Option Meaning) (f : Flow) → Conforms vars k r f → Conforms vars k r (F.unset_in n marks first f)
  unset-conforms k r n marks None f c = B.also-unset vars [] k r f (f.unset ++ F.early_of n marks f) c
  unset-conforms k r n marks (Some m) f c = c

  pub unset-apart : (k : Sight) (n : ℕ) (marks : List Bool) (first : Option Meaning) (f : Flow) → Apart vars k (F.unset_in n marks first f) → Apart vars k f
  unset-apart k n marks None f h = h
  unset-apart k n marks (Some m) f h = h

  -- a block: its locals start, and then its statements run
  pub block-conforms : (k : Sight) (ls : List Local) (ps : List (Part vars k)) → Apart vars k (scope_flow ls (F.in_turn (part_flows vars k ps)) k)
      → Conforms vars k (R.in_turn (local_runs ls ++ part_runs vars k ps)) (scope_flow ls (F.in_turn (part_flows vars k ps)) k)
  block-conforms k [] ps apart = C.turns-conform vars k ps apart
  block-conforms k (l ∷ ls) ps apart =
      let f = F.starting l.number (marks_of l) (initial_of l) k in
      let inner = scope_flow ls (F.in_turn (part_flows vars k ps)) k in
      let g = F.unset_in l.number (marks_of l) (initial_of l) inner in
      let r = R.start l.number (marks_of l) (initial_of l) in
      let rs = local_runs ls ++ part_runs vars k ps in
      let rest = block-conforms k ls ps (unset-apart k l.number (marks_of l) (initial_of l) inner (C.apart-second vars k f g apart)) in
      C.spelled-there vars [] k (U.then_run r (R.in_turn rs)) (R.in_turn (r ∷ rs)) (F.and_then f g) (λ a s st. C.turn-is vars r rs k a s st)
      (C.pair-conforms vars k r (R.in_turn rs) f g (C.start-conforms vars k l.number (marks_of l) (initial_of l) (initial-hangs l)) (unset-conforms k (R.in_turn rs) l.number (marks_of l) (initial_of l) inner rest) (C.apart-first vars k f g apart))

  -- an output is assigned to its actual, once the indices of that are read
  copy-conforms : (k : Sight) (p : Parameter) (m : Meaning) (v : List Bit4) → IsPlace m → Conforms vars k (copied_out p.way (copy_out p m v)) (writes_out p.way m k)
  copy-conforms k p m v h = by p.way
    where
      out : Conforms vars k (copy_out p m v) (F.and_then (F.reading (m.indices k)) (F.writing (m.writes k)))
      out =
          let c = B.now-conforms vars (m.indices k) k (m.writes k) (λ a. m.puts a (ext (wide m) p.signed v)) (λ a sa q is. h.within k a sa (ext (wide m) p.signed v) q is) (λ a sa q is. h.sure k a sa (ext (wide m) p.signed v) q is)
          (λ a b sa sb agree q. h.same k a b sa sb agree (ext (wide m) p.signed v) q) in
          B.after-reading vars (m.indices k) k (copy_out p m v) (F.writing (m.writes k)) (record { ends = c.ends; within = c.within; later = c.later; grows = c.grows; sure = c.sure; same = c.same })

      by : (w : Way) → Conforms vars k (copied_out w (copy_out p m v)) (writes_out w m k)
      by Y.Input = B.idle-conforms vars k
      by Y.Output = out
      by Y.Inout = out

  -- outputs are assigned in the order of the formals, each of which has a last value
  copies-conform : (k : Sight) (ps : List Parameter) (ms : List Meaning) (vs : List (List Bit4)) → AllPlaces ms → length vs ≡ length ps → Apart vars k (all_written_out ps ms k)
      → Conforms vars k (copies_out ps ms vs) (all_written_out ps ms k)
  copies-conform k [] ms vs h long apart = record {
    ends = λ a s st. ap is_normal st.normal;
    within = λ a s st q g. refl;
    later = λ a s st q g. refl;
    grows = λ a s st q g. g;
    sure = λ a s st q g. absurd (true≢false (sym (ap is_normal st.normal) ∙ g));
    same = λ a b s t sa sb alike agree early. alike;
  }
  copies-conform k (p ∷ ps) [] vs h long apart = record {
    ends = λ a s st. ap is_normal st.normal;
    within = λ a s st q g. refl;
    later = λ a s st q g. refl;
    grows = λ a s st q g. g;
    sure = λ a s st q g. absurd (true≢false (sym (ap is_normal st.normal) ∙ g));
    same = λ a b s t sa sb alike agree early. alike;
  }
  copies-conform k (p ∷ ps) (m ∷ ms) [] h long apart = absurd (none (length ps) long)
    where
      none : (n : ℕ) → 0 ≡ suc n → ⊥
      none n e = omega arith
  copies-conform k (p ∷ ps) (m ∷ ms) (v ∷ vs) h long apart =
      let f = writes_out p.way m k in
      let g = all_written_out ps ms k in
      let c = copy-conforms k p m v h.0 in
      let rest = copies-conform k ps ms vs h.1 (shorter (length vs) (length ps) long) (C.apart-second vars k f g apart) in
      C.spelled-there vars [] k (U.then_run (copied_out p.way (copy_out p m v)) (copies_out ps ms vs)) (copies_out (p ∷ ps) (m ∷ ms) (v ∷ vs)) (F.and_then f g)
      (λ a s st. goes-on a s st p.way (copies_out ps ms vs))
      (C.pair-conforms vars k (copied_out p.way (copy_out p m v)) (copies_out ps ms vs) f g c rest (C.apart-first vars k f g apart))
    where
      still : (a : Around) (s : State) → Starts vars k a s → (w : Way) → is_normal (copied_out w (copy_out p m v) a s).outcome ≡ true
      still a s st Y.Input = ap is_normal st.normal
      still a s st Y.Output = ap is_normal st.normal
      still a s st Y.Inout = ap is_normal st.normal

      goes-on : (a : Around) (s : State) → Starts vars k a s → (w : Way) (r : Run) → U.then_run (copied_out w (copy_out p m v)) r a s ≡ r a (copied_out w (copy_out p m v) a s)
      goes-on a s st w r = ap (λ b. one_of b r idle a (copied_out w (copy_out p m v) a s)) (still a s st w)

  -- a call of a task or void function that gives each of its formals a last value
  pub call-conforms : (k : Sight) (f : ℕ) (ms : List Meaning) → AllHang ms → AllPlaces ms → ((vs : List (List Bit4)) → length ((k.around.callee f).run vs).finals ≡ length (k.around.callee f).formals)
      → Apart vars k (F.calling f ms k) → Conforms vars k (R.call_routine f ms) (F.calling f ms k)
  call-conforms k f ms hang place long apart =
      let callee = k.around.callee f in
      let us = all_read_in callee.formals ms k in
      let g = all_written_out callee.formals ms k in
      let r = λ (vs : List (List Bit4)). copies_out callee.formals ms (callee.run vs).finals in
      B.after-reading vars us k (R.call_routine f ms) g
      (C.spelled-there vars us k (λ a s. r (all_taken_in callee.formals ms (current a s)) a s) (R.call_routine f ms) g
      (λ a s st. ap (λ (c : ℕ → Callee). copies_out (c f).formals ms ((c f).run (all_taken_in (c f).formals ms (current a s))).finals a s) (sym st.seen.callee))
      (B.chosen-conforms vars us k (λ a s. all_taken_in callee.formals ms (current a s)) r g
      (λ vs. B.lifted vars us k (r vs) g (copies-conform k callee.formals ms (callee.run vs).finals place (long vs) (C.apart-second vars k (F.reading us) g apart)))
      (λ a b s t sa sb agree. all-taken-alike callee.formals ms k (current a s) (current b t) hang sa.seen sb.seen agree)))
