-- Functions hang on no locals of a valuation, and neither do processes.
use Rattle.std.proofs.Common.{◌≡◌, ℕ, zero, suc, ◌+◌, ◌≤◌, ◌^◌, Bool, true, false, List, [], ◌∷◌, ◌++◌, Option, Some, None, refl, ap, ◌∙◌, arith}
use Rattle.std.specs.Prelude.{length, cond}
use Rattle.std.specs.Str.{bytes_eq}
use Rattle.std.proofs.lemmas.Bool.{lt-ltb}
use Rattle.row_machine.specs.Valuation.{put}
use Rattle.row_machine.specs.Places.{vector_at}
use Rattle.row_machine.specs.Steps.{unchanged}
use Rattle.v_tree.specs.Names.{Name}
use Rattle.v_tree.specs.declared.items.VFunction.{VFunction}
use Rattle.v_tree.specs.declared.items.VItem.{VItem}
use Rattle.v_meaning.specs.Scopes.{Named, Scope, Callee, named, local_number, bits_of_range, absent, is_signal}
use Rattle.v_meaning.specs.Runs.{State, current, begun, cleared, assign_now}
use Rattle.v_meaning.specs.Statements.{doing, declared}
use Rattle.v_meaning.specs.Functions.{locals_of, inputs_of, result_of, scope_in, bound, callee_of, not_run, find, callee_or_absent, callees_within}
use Rattle.v_meaning.specs.Modules.{Signal, numbered, signals, functions, scope_of}
use Rattle.v_stores.specs.Waits.{place}
use Rattle.v_hangs.proofs.Same.{Same, CalleeSame, FunctionsSame, vector-same, more-stays}
use Rattle.v_hangs.proofs.Runs.{names-cleared, first-cleared, body-same}

-- all names are signals
pub record Low (names : List Named) : Type 0 where
  pub low : (name : Name) → is_signal (named names name).number ≡ true

numbered-low : (first : ℕ) (ss : List Signal) → first + length ss ≤ 2 ^ 32 → (name : Name) → is_signal (named (numbered first ss) name).number ≡ true
numbered-low first [] h name = refl
numbered-low first (s ∷ ss) h name = by (bytes_eq s.name name) (numbered-low (suc first) ss (omega (arith, h)) name)
  where
    rest : Named
    rest = named (numbered (suc first) ss) name

    own : Named
    own = record { name = s.name; number = first; width = s.width; words = s.words }

    by : (b : Bool) → is_signal rest.number ≡ true → is_signal (cond b own rest).number ≡ true
    by true go = lt-ltb first (2 ^ 32) (omega (arith, h))
    by false go = go

pub module-low : (first : ℕ) (items : List VItem) → first + length (signals items) ≤ 2 ^ 32 → Low (numbered first (signals items))
module-low first items h = record { low = numbered-low first (signals items) h }

-- functions
absent-same : CalleeSame absent
absent-same = record { same = λ v w a args. refl }

not-run-same : (f : VFunction) → CalleeSame (not_run f)
not-run-same f = record { same = λ v w a args. refl }

-- the locals but for the result
abbrev others : VFunction → List Named
others f = inputs_of f ++ declared (suc (length f.inputs)) f.locals

callee-same : (f : VFunction) (sc : Scope) → Low sc.names → FunctionsSame sc → CalleeSame (callee_of sc f)
callee-same f sc names g = record {
  same = λ v w a args.
      let inner = scope_in f sc in
      let made = assign_now (cleared (locals_of f)) begun in
      let from = assign_now (bound (inputs_of f) args) made in
      let start : Same inner (current v from) (current w from) = record {
        signals = record { same = λ q e. more-stays made.written (bound (inputs_of f) args) v w q (more-stays unchanged (cleared (locals_of f)) v w q (a.same q e)) };
        names = λ name k l.
            more-stays made.written (bound (inputs_of f) args) v w _
            (names-cleared (locals_of f) sc.names unchanged v w name k (λ m. a.same (place (named sc.names name).number k) (names.low name)) l);
      } in
      let h = body-same f.body inner (record { same = g.same }) in
      let s = (doing f.body).run inner v from in
      vector-same (put s.written v) (put s.written w) (local_number 0) (bits_of_range f.range)
      (λ k l. h.stays v v w from (place (local_number 0) k)
      (more-stays made.written (bound (inputs_of f) args) v w (place (local_number 0) k) (first-cleared (result_of f) (others f) unchanged v w k l)))
      ∙ ap (λ (t : State). vector_at (put t.written w) (local_number 0) (bits_of_range f.range)) (h.same v w from start);
}

found-same : (c : VFunction → Callee) → ((f : VFunction) → CalleeSame (c f)) → (o : Option VFunction) → CalleeSame (callee_or_absent c o)
found-same c h None = absent-same
found-same c h (Some f) = h f

within-same : (depth : ℕ) (names : List Named) → Low names → (fs : List VFunction) (name : Name) → CalleeSame (callees_within depth names fs name)
unfolding callees_within
within-same zero names l fs name = found-same not_run not-run-same (find fs name)
within-same (suc depth) names l fs name =
    let sc : Scope = record { names = names; next = 0; callee = callees_within depth names fs } in
    found-same (callee_of sc) (λ f. callee-same f sc l (record { same = λ n. (within-same depth names l fs n).same })) (find fs name)

pub module-functions : (first : ℕ) (items : List VItem) → first + length (signals items) ≤ 2 ^ 32 → FunctionsSame (scope_of first items)
module-functions first items h = record { same = λ name. (within-same (length (functions items)) (numbered first (signals items)) (module-low first items h) (functions items) name).same }
