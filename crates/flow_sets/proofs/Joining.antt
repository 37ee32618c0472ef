-- Paths one after the other, and paths side by side.
use Rattle.std.proofs.Common.{◌≡◌, ℕ, Bool, true, false, ◌&&◌, ◌||◌, not, List, Option, Some, None, refl, ap, sym, ◌∙◌}
use Rattle.std.specs.Prelude.{is_some}
use Rattle.bit_sets.specs.declared.span.Span.{Span}
use Rattle.bit_sets.specs.Sets.{in_spans, IsSet}
use Rattle.flow_sets.specs.Ends.{IsKnown, leaves_out, IsAfter, IsThen, IsEither}

not-or : (a b : Bool) → not (a || b) ≡ (not a && not b)
not-or true b = refl
not-or false b = refl

not-and : (a b : Bool) → not (a && b) ≡ (not a || not b)
not-and true b = refl
not-and false b = refl

and-false : (a : Bool) → (a && false) ≡ false
and-false true = refl
and-false false = refl

or-false : (a : Bool) → (a || false) ≡ a
or-false true = refl
or-false false = refl

pub after-none : (b : Option (List Span)) → IsAfter None None b
after-none b = record { set = tt; ends = refl; slips = λ n. refl }

pub after-stops : (a : Option (List Span)) → IsAfter None a None
after-stops None = record { set = tt; ends = refl; slips = λ n. refl }
after-stops (Some s) = record { set = tt; ends = refl; slips = λ n. sym (and-false (not (in_spans s n))) }

pub after-both : (r a b : List Span) → IsSet r → ((n : ℕ) → in_spans r n ≡ (in_spans a n || in_spans b n)) → IsAfter (Some r) (Some a) (Some b)
after-both r a b set is = record { set = set; ends = refl; slips = λ n. ap not (is n) ∙ not-or (in_spans a n) (in_spans b n) }

pub ruleset after_laws = (after-none, after-stops, after-both)

pub either-none : (b : Option (List Span)) → IsKnown b → IsEither b None b
either-none b set = record { set = set; ends = refl; slips = λ n. refl }

pub either-left : (s : List Span) → IsSet s → IsEither (Some s) (Some s) None
either-left s set = record { set = set; ends = refl; slips = λ n. sym (or-false (not (in_spans s n))) }

pub either-both : (r a b : List Span) → IsSet r → ((n : ℕ) → in_spans r n ≡ (in_spans a n && in_spans b n)) → IsEither (Some r) (Some a) (Some b)
either-both r a b set is = record { set = set; ends = refl; slips = λ n. ap not (is n) ∙ not-and (in_spans a n) (in_spans b n) }

pub ruleset either_laws = (either-none, either-left, either-both)

pub then-is : (r both first then_ before : Option (List Span)) → IsAfter both first then_ → IsEither r both before → IsThen r first then_ before
then-is r both first then_ before a e = record {
  set = e.set;
  ends = e.ends ∙ ap (λ b. b || is_some before) a.ends;
  slips = λ n. e.slips n ∙ ap (λ b. b || leaves_out before n) (a.slips n);
}

pub after-set : (r first then_ : Option (List Span)) → IsAfter r first then_ → IsKnown r
after-set r first then_ a = a.set

pub ruleset then_law = (then-is, after-set)
