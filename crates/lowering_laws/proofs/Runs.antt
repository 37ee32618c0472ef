-- Statements of the target do what those of the source do.
use Rattle.std.proofs.Common.{◌≡◌, ℕ, Bool, true, false, List, [], ◌∷◌, Option, Some, None, refl, sym, ◌∙◌, subst, ap}
use Rattle.b4_core.specs.declared.bit.Bit4.{Bit4}
use Rattle.b4_core.specs.Bits.{is_one}
use Rattle.row_machine.specs.Valuation.{Place, Valuation, Changes, put, changed}
use Rattle.row_machine.specs.Steps.{then_changes, later_or, unchanged}
use Rattle.sv_types.specs.declared.statement.Outcome.{Outcome}
use Rattle.sv_types.specs.declared.statement.Outcome.TheVariants.{Normal}
use Rattle.sv_types.specs.Layouts.{stored_bit}
use Rattle.sv_types.specs.Surroundings.{Around}
use Rattle.sv_types.specs.Meanings as M
use Rattle.sv_types.specs.Runs as S
use Rattle.v_meaning.specs.Scopes.{Scope}
use Rattle.v_meaning.specs.Values as V
use Rattle.v_meaning.specs.Statements as D
use Rattle.v_meaning.specs.Runs as T
use Rattle.lowering_laws.specs.Agreeing.{Images, Agree, SameChanges, SameState, Stands, SameRun, SameRuns}
use Rattle.lowering_laws.proofs.Operators.{truth-same}

-- a bit that is changed twice
pub over : (x y : Option Bit4) (b : Bit4) → changed (later_or x y) b ≡ changed x (changed y b)
over None y b = refl
over (Some x) y b = refl

module _ (im : Images) where
  abbrev here : ℕ → ℕ → Place
  here n b = record { signal = n; bit = b }

  -- a bit that its type can hold stays one
  kept-bit : (m : Bool) (o : Option Bit4) (b : Bit4) → ((x : Bit4) → o ≡ Some x → stored_bit m x ≡ x) → stored_bit m b ≡ b → stored_bit m (changed o b) ≡ changed o b
  kept-bit m None b h g = g
  kept-bit m (Some x) b h g = h x refl

  -- what is changed in the same way agrees
  pub put-agrees : (c d : Changes) (now v : Valuation) → SameChanges im c d → Agree im now v → Agree im (put c now) (put d v)
  put-agrees c d now v same agree = record {
    same = λ n b h i. changed (same.same n b h i) (agree.same n b h i);
    stored = λ n b h. kept-bit (im.two_state n b) (c (here n b)) (now (here n b)) (λ x. same.stored n b x h) (agree.stored n b h);
  }

  -- over what was written before
  pub then-agrees : (c d e f : Changes) (now v : Valuation) → SameChanges im e f → Agree im (put c now) (put d v) → Agree im (put (then_changes c e) now) (put (then_changes d f) v)
  then-agrees c d e f now v same agree =
      let all = put-agrees e f (put c now) (put d v) same agree in
      record {
        same = λ n b h. over (f (here (im.number n) (im.place n b))) (d (here (im.number n) (im.place n b))) (v (here (im.number n) (im.place n b))) ∙ all.same n b h ∙ sym (over (e (here n b)) (c (here n b)) (now (here n b)));
        stored = λ n b h.
            subst (λ x. stored_bit (im.two_state n b) x ≡ x) (sym (over (e (here n b)) (c (here n b)) (now (here n b)))) (all.stored n b h);
      }

  later-kept : (m : Bool) (o p : Option Bit4) (x : Bit4) → ((y : Bit4) → o ≡ Some y → stored_bit m y ≡ y) → ((y : Bit4) → p ≡ Some y → stored_bit m y ≡ y) → later_or o p ≡ Some x → stored_bit m x ≡ x
  later-kept m None p x h g e = g x e
  later-kept m (Some y) p x h g e = h x e

  pub then-same : (c d e f : Changes) → SameChanges im c d → SameChanges im e f → SameChanges im (then_changes c e) (then_changes d f)
  then-same c d e f first second = record {
    same = λ n b h i. later_or (second.same n b h i) (first.same n b h i);
    stored = λ n b x h. later-kept (im.two_state n b) (e (here n b)) (c (here n b)) x (λ y. second.stored n b y h) (λ y. first.stored n b y h);
  }

  pub none-same : SameChanges im unchanged unchanged
  none-same = record { same = λ n b h. refl; stored = λ n b x h e. cc }

  module _ (a : Around) (sc : Scope) where
    pub idle-same : SameRun im a sc S.idle T.idle
    idle-same now v s u same = same

    go-on : (o : Outcome) (r k : S.Run) (x : Around) (s : S.State) → s.outcome ≡ o → o ≡ Normal → S.one_of (S.is_normal s.outcome) r k x s ≡ r x s
    go-on o r k x s is normal = ap (λ p. S.one_of (S.is_normal p) r k x s) (is ∙ normal)

    -- one after the other
    pub sequence-same : (rs : List S.Run) (ds : List D.Doing) → SameRuns im a sc rs ds → SameRun im a sc (S.in_turn rs) (D.sequence ds).run
    sequence-same [] [] h now v s u same = same
    sequence-same [] (d ∷ ds) h now v s u same = absurd h
    sequence-same (r ∷ rs) [] h now v s u same = absurd h
    sequence-same (r ∷ rs) (d ∷ ds) h now v s u same =
        let first = h.0 now v s u same in
        let rest = sequence-same rs ds h.1 now v (r (record a { now = now }) s) (d.run sc v u) first in
        subst (λ y. SameState im now v y ((D.sequence (d ∷ ds)).run sc v u)) (sym (go-on s.outcome (λ b t. S.in_turn rs b (r b t)) S.idle (record a { now = now }) s refl same.goes_on)) rest

    -- a branch
    branch-by : (b : Bool) (body other : S.Run) (then_run other_run : T.Run) → SameRun im a sc body then_run → SameRun im a sc other other_run
        → SameRun im a sc (S.one_of b body other) (T.one_of b then_run other_run)
    branch-by true body other then_run other_run h g = h
    branch-by false body other then_run other_run h g = g

    pub branch-same : (on : M.Meaning) (m : V.Meaning) (body other : S.Run) (then_run other_run : T.Run) → Stands im a sc on (M.wide on) (M.signed on) m
        → SameRun im a sc body then_run → SameRun im a sc other other_run → SameRun im a sc (S.branch on body other) (T.branch m then_run other_run)
    branch-same on m body other then_run other_run stands h g now v s u same =
        let truth = truth-same on (record a { now = put s.written now }) m sc (T.current v u) (stands (put s.written now) (T.current v u) same.current) in
        subst (λ t. SameState im now v (S.one_of (S.is_true on (record a { now = put s.written now })) body other (record a { now = now }) s) (T.one_of (is_one t) then_run other_run sc v u)) (sym truth)
        (branch-by (S.is_true on (record a { now = put s.written now })) body other then_run other_run h g now v s u same)
