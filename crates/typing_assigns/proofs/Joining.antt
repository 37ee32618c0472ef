-- Concatenations of targets.
use Rattle.std.proofs.Common.{◌≡◌, ◌+◌, ◌%◌, ◌<◌, ℕ, Bool, true, false, List, [], ◌∷◌, ◌++◌, map, length, get_or, drop, refl, sym, ap, ◌∙◌, subst, arith, drop-cons, add-one}
use Rattle.std.specs.Prelude.{Ok, Err, nat_lt, ◌||◌, ◌&&◌, ◌==◌, not}
use Rattle.std.specs.List.{list_any}
use Rattle.std.proofs.Math.Nat.{mod-add-mod, mod-eq_of_lt}
use Rattle.std.proofs.lemmas.List.{at_drop_more, map-append}
use Rattle.sv_types.specs.declared.expression.Expr.{Expr}
use Rattle.sv_types.specs.declared.expression.Form.TheVariants as F
use Rattle.sv_types.specs.Layouts.{width_of}
use Rattle.operand_types.specs.Allowed.{AllNarrow}
use Rattle.expr_type.specs.declared.operand.Valued.{Valued}
use Rattle.expr_type.specs.Breaks.{Position}
use Rattle.expr_type.specs.Names.{Context, Source, position}
use Rattle.expr_type.specs.Operators.{all_bits, by_itself, concat_of, exprs}
use Rattle.expr_type.specs.Shapes.{most_bits, vector}
use Rattle.expr_type.specs.Typings.{Checked, refused, where_whole}
use Rattle.typing_assigns.specs.declared.target.TargetPart.{TargetPart}
use Rattle.expr_type.specs.Targets as D
use Rattle.expr_type.specs.declared.halt.Halt.{Halt}
use Rattle.expr_type.specs.declared.halt.Halt.TheVariants as H
use Rattle.expr_type.specs.Answers.{HaltsBy, reason}
use Rattle.expr_type.specs.Forms.{stream_of}
use Rattle.typing_assigns.specs.declared.target.Target.TheVariants as T
use Rattle.typing_assigns.specs.Parts.{AllNarrowParts, AllNarrowValues, GivesOne, of_part, part_meant}

-- what is narrow has narrow expressions
pub narrow-values : (vs : List Valued) → AllNarrowValues vs → AllNarrow (exprs vs)
narrow-values [] n = tt
narrow-values (v ∷ vs) n = (n.0, narrow-values vs n.1)

pub narrow-parts : (ps : List TargetPart) → AllNarrowParts ps → AllNarrow (exprs (map of_part ps))
narrow-parts [] n = tt
narrow-parts (p ∷ ps) n = (n.0, narrow-parts ps n.1)

-- the operands of a concatenation
not-refused : (p : Position) (rule : ℕ) (u v : Valued) (b : Bool) → refused b p rule (Ok u) ≡ Ok v → u ≡ v
not-refused p rule u v true h = absurd (cc)
not-refused p rule u v false h = cc

pub concat-form : (k : Source) (opening : ℕ) (es : List Expr) (v : Valued) → concat_of k opening es ≡ Ok v → v.expr.form ≡ F.Concat es
concat-form k opening es v h =
    let whole : Valued = by_itself k opening (vector (all_bits es) false) (F.Concat es) in
    ap (λ (u : Valued). u.expr.form) (sym (not-refused (position k opening) 701 whole v (nat_lt most_bits (all_bits es)) h))

-- one more of them
pub exprs-more : (ps : List TargetPart) (p : TargetPart) → exprs (map of_part (ps ++ p ∷ [])) ≡ exprs (map of_part ps) ++ p.of.expr ∷ []
exprs-more [] p = refl
exprs-more (q ∷ ps) p = ap (λ (es : List Expr). q.of.expr ∷ es) (exprs-more ps p)

pub values-more : (vs : List Valued) (v : Valued) → exprs (vs ++ v ∷ []) ≡ exprs vs ++ v.expr ∷ []
values-more vs v = map-append (λ (u : Valued). u.expr) vs (v ∷ [])

abbrev enums : List TargetPart → Bool
enums ps = list_any (λ (p : D.TargetPart). p.has_enum) (map part_meant ps)

or-on : (a b c : Bool) → (a || (b || c)) ≡ ((a || b) || c)
or-on true b c = refl
or-on false b c = refl

or-none : (b : Bool) → (b || false) ≡ b
or-none true = refl
or-none false = refl

pub enums-more : (ps : List TargetPart) (p : TargetPart) → enums (ps ++ p ∷ []) ≡ (enums ps || p.has_enum)
enums-more [] p = or-none p.has_enum
enums-more (q ∷ ps) p = ap (λ (b : Bool). q.has_enum || b) (enums-more ps p) ∙ or-on q.has_enum (enums ps) p.has_enum

pub ruleset apart = (exprs-more, values-more, enums-more)

-- what is left behind slices of one part more, and in the end
pub left-next : (left w rest n : ℕ) → ((left + w) % n + rest) % n ≡ (left + (w + rest)) % n
left-next left w rest n = mod-add-mod (left + w) n rest ∙ ap (λ (x : ℕ). x % n) (omega arith)

pub left-turn : (es : List Expr) (i : ℕ) (e : Expr) (left w next n : ℕ) → i < length es → e ≡ get_or es i e → w ≡ width_of e.of → next ≡ (left + w) % n
    → (left + all_bits (drop i es)) % n ≡ all_bits es % n → (next + all_bits (drop (i + 1) es)) % n ≡ all_bits es % n
left-turn es i e left w next n within is wide more h =
    let rest = all_bits (drop (i + 1) es) in
    let now : all_bits (drop i es) ≡ w + rest = at_drop_more all_bits es i e within ∙ ap (λ (x : Expr). width_of x.of + rest) (sym is) ∙ ap (λ (x : ℕ). x + rest) (sym wide) in
    ap (λ (x : ℕ). (x + rest) % n) more ∙ left-next left w rest n ∙ ap (λ (x : ℕ). (left + x) % n) (sym now) ∙ h

pub narrow-turn : (es : List Expr) (i : ℕ) (e : Expr) → i < length es → AllNarrow (drop i es) → AllNarrow (drop (i + 1) es)
narrow-turn es i e within n =
    let behind = subst AllNarrow (drop-cons es i e within) n in
    subst (λ (j : ℕ). AllNarrow (drop j es)) (sym (add-one i)) behind.1

pub left-last : (left rest n : ℕ) → rest ≡ 0 → left < n → (left + rest) % n ≡ left
left-last left rest n e h = ap (λ (x : ℕ). x % n) (omega arith) ∙ mod-eq_of_lt h

pub ruleset lefts = (left-next, left-last)

-- a concatenation of targets
meant : (ps : List TargetPart) → map (λ (p : D.TargetPart). p.of) (map part_meant ps) ≡ map of_part ps
meant [] = refl
meant (p ∷ ps) = ap (λ (vs : List Valued). p.of ∷ vs) (meant ps)

abbrev joined_by : Context → ℕ → List Valued → Bool → Checked D.Target
joined_by k opening vs e = where_whole (concat_of k.source opening (exprs vs)) (λ v. Ok (D.ToParts v vs e))

pub where-stops : {A B : Type 0} (c : Checked A) (f : A → Checked B) (h : Halt) → HaltsBy h (reason c) → HaltsBy h (reason (where_whole c f))
where-stops (Ok a) f H.Memory p = tt
where-stops (Ok a) f (H.Breaks at n) p = absurd (cc)
where-stops (Ok a) f H.Quiet p = absurd (cc)
where-stops (Err b) f h p = p

pub joined-fine : (k : Context) (opening : ℕ) (ps : List TargetPart) (es : List Expr) (e : Bool) (v : Valued) → es ≡ exprs (map of_part ps) → e ≡ enums ps → concat_of k.source opening es ≡ Ok v
    → GivesOne (T.Parts v e) (D.joined_target k opening (map part_meant ps))
joined-fine k opening ps es e v is has h =
    let vs = map of_part ps in
    let whole : concat_of k.source opening (exprs vs) ≡ Ok v = ap (concat_of k.source opening) (sym is) ∙ h in
    record {
      target = D.ToParts v vs e;
      stands = record { parts = vs; is = refl; form = concat-form k.source opening (exprs vs) v whole };
      gives =
          ap (λ (us : List Valued). joined_by k opening us (enums ps)) (meant ps) ∙ ap (λ (c : Checked Valued). where_whole c (λ u. made (D.ToParts u vs (enums ps)))) whole
          ∙ ap (λ (b : Bool). made (D.ToParts v vs b)) (sym has);
    }
  where
    made : D.Target → Checked D.Target
    made t = Ok t

pub joined-stops : (k : Context) (opening : ℕ) (ps : List TargetPart) (es : List Expr) (h : Halt) → es ≡ exprs (map of_part ps) → HaltsBy h (reason (concat_of k.source opening es))
    → HaltsBy h (reason (D.joined_target k opening (map part_meant ps)))
joined-stops k opening ps es h is s =
    let vs = map of_part ps in
    subst (λ (us : List Valued). HaltsBy h (reason (joined_by k opening us (enums ps)))) (sym (meant ps))
    (where-stops (concat_of k.source opening (exprs vs)) (λ v. Ok (D.ToParts v vs (enums ps))) h (subst (λ (fs : List Expr). HaltsBy h (reason (concat_of k.source opening fs))) is s))

-- a stream of targets
abbrev cuts : Bool → ℕ → List Expr → Bool
cuts reversed n es = reversed && not (all_bits es % n == 0)

abbrev streamed : Checked Valued → Checked D.Target
streamed c = where_whole c (λ v. Ok (D.ToStream v))

abbrev stream_by : Context → ℕ → Bool → Checked Valued → Checked D.Target
stream_by k opening b c = refused b (position k.source opening) 511 (streamed c)

pub stream-fine : (k : Context) (opening : ℕ) (reversed : Bool) (n : ℕ) (vs : List Valued) (es : List Expr) (v : Valued) → es ≡ exprs vs → false ≡ cuts reversed n es
    → stream_of k.source opening reversed n es ≡ Ok v → GivesOne (T.Stream v) (D.stream_target k opening reversed n vs)
stream-fine k opening reversed n vs es v is f h = record {
  target = D.ToStream v;
  stands = refl;
  gives =
      ap (λ (fs : List Expr). stream_by k opening (cuts reversed n fs) (stream_of k.source opening reversed n fs)) (sym is)
      ∙ ap (λ (b : Bool). stream_by k opening b (stream_of k.source opening reversed n es)) (sym f) ∙ ap streamed h;
}

pub stream-stops : (k : Context) (opening : ℕ) (reversed : Bool) (n : ℕ) (vs : List Valued) (es : List Expr) (h : Halt) → es ≡ exprs vs → false ≡ cuts reversed n es
    → HaltsBy h (reason (stream_of k.source opening reversed n es)) → HaltsBy h (reason (D.stream_target k opening reversed n vs))
stream-stops k opening reversed n vs es h is f s =
    subst (λ (fs : List Expr). HaltsBy h (reason (stream_by k opening (cuts reversed n fs) (stream_of k.source opening reversed n fs)))) is
    (subst (λ (b : Bool). HaltsBy h (reason (stream_by k opening b (stream_of k.source opening reversed n es)))) f (where-stops (stream_of k.source opening reversed n es) (λ v. Ok (D.ToStream v)) h s))

pub stream-cut : (k : Context) (opening : ℕ) (reversed : Bool) (n : ℕ) (vs : List Valued) (es : List Expr) → es ≡ exprs vs → true ≡ cuts reversed n es
    → HaltsBy (H.Breaks opening 511) (reason (D.stream_target k opening reversed n vs))
stream-cut k opening reversed n vs es is f =
    subst (λ (fs : List Expr). HaltsBy (H.Breaks opening 511) (reason (stream_by k opening (cuts reversed n fs) (stream_of k.source opening reversed n fs)))) is
    (subst (λ (b : Bool). HaltsBy (H.Breaks opening 511) (reason (stream_by k opening b (stream_of k.source opening reversed n es)))) f refl)

pub ruleset targets = (joined-fine, joined-stops, stream-fine, stream-stops, stream-cut, narrow-values, narrow-parts)
