-- Casts by what stands before and behind their ticks.
use Rattle.std.proofs.Common.{◌≡◌, ℕ, Bool, true, false, cond, List, refl, sym, ap, ◌∙◌, subst}
use Rattle.std.specs.Prelude.{Result, Ok, Err, pos, unsigned_abs}
use Rattle.sv_tree.specs.declared.expressions.Cast.{Cast, Cast-F, fold-roll-Cast}
use Rattle.sv_tree.specs.declared.expressions.Cast.TheVariants as C
use Rattle.sv_tree.specs.declared.expressions.Expr.{Expr}
use Rattle.sv_tree.specs.declared.expressions.Pattern.{Pattern}
use Rattle.sv_types.specs.declared.statement.Function.{Function}
use Rattle.sv_types.specs.declared.types.SvType.{SvType}
use Rattle.expr_type.specs.declared.halt.Halt.{Halt}
use Rattle.expr_type.specs.declared.halt.Halt.TheVariants as H
use Rattle.expr_type.specs.declared.operand.Number.{Number}
use Rattle.expr_type.specs.declared.operand.Valued.{Valued}
use Rattle.expr_type.specs.Answers.{Gives, reason}
use Rattle.expr_type.specs.Breaks.{Breaks, At}
use Rattle.expr_type.specs.Expressions as E
use Rattle.expr_type.specs.Expressions.{CastMeaning, DimensionMeaning, ItemMeaning, Meaning, PatternMeaning, RangeMeaning, SliceMeaning, meaning, pattern_operand}
use Rattle.expr_type.specs.Forms.{SelectMeaning}
use Rattle.expr_type.specs.Forms as F
use Rattle.expr_type.specs.Names.{Context, Source, position}
use Rattle.expr_type.specs.Operands.{Operand, bits_in, constant_in, has_bits, is_constant_value, is_number_in, is_value, number_within}
use Rattle.expr_type.specs.Typings.{Checked, Typed, Typing, applied, beside, broken, by_functions, checked, joined, rule, where_whole, whole}
use Rattle.typing_steps.specs.Steps.{TypesTo}
use Rattle.typing_steps.proofs.Combining.{beside-fine, checked-fine, checked-stops, rule-types}
use Rattle.typing_patterns.specs.Insides.{bits_of, inside_bits, inside_of, operand_bits}
use Rattle.typing_patterns.specs.Sized.{size_of, sized, typed_by}
use Rattle.typing_patterns.specs.Written.{pattern_by}
use Rattle.typing_patterns.specs.TypingValues.{operand_number}
use Rattle.typing_patterns.specs.TypingValues.{by_size, pattern_meaning}

-- what is made of what is whole, and a rule on that
then-by : {A B C : Type 0} (r : Checked A) (m : A → B) (f : B → Typing C) (fs : List Function)
    → applied (applied r (λ a. whole (m a)) fs).result f (applied r (λ a. whole (m a)) fs).functions ≡ applied r (λ a. f (m a)) fs
then-by (Ok a) m f fs = refl
then-by (Err b) m f fs = refl

-- what stands behind a tick
abbrev in_parentheses : ℕ → Operand → Typing F.Inside
in_parentheses tick o = whole (record { tick = tick; is_pattern = false; of = o })

abbrev as_pattern : ℕ → Operand → Typing F.Inside
as_pattern tick o = whole (record { tick = tick; is_pattern = true; of = o })

inside-Value : (k : Context) (tick opening closing : ℕ) (value : Expr) → inside_of k (C.Value tick opening value closing) ≡ checked ((meaning value).typed k) (in_parentheses tick)
inside-Value k tick opening closing value =
    ap (inside_of k) (sym (C.rolls-Value tick opening value closing))
    ∙ ap (λ (m : CastMeaning). m k) (fold-roll-Cast CastMeaning DimensionMeaning Meaning PatternMeaning ItemMeaning SelectMeaning SliceMeaning RangeMeaning E.cast_step E.dimension_step E.expr_step E.pattern_step E.pattern_item_step E.select_step E.slice_size_step E.value_range_step (Cast-F.«Cast::Value» tick opening value closing))

inside-Pattern : (k : Context) (tick opening closing : ℕ) (p : Pattern)
    → inside_of k (C.Pattern tick opening p closing) ≡ checked (pattern_meaning p k) (λ x. as_pattern tick (pattern_operand k tick x))
inside-Pattern k tick opening closing p =
    ap (inside_of k) (sym (C.rolls-Pattern tick opening p closing))
    ∙ ap (λ (m : CastMeaning). m k) (fold-roll-Cast CastMeaning DimensionMeaning Meaning PatternMeaning ItemMeaning SelectMeaning SliceMeaning RangeMeaning E.cast_step E.dimension_step E.expr_step E.pattern_step E.pattern_item_step E.select_step E.slice_size_step E.value_range_step (Cast-F.«Cast::Pattern» tick opening p closing))

pattern-typed : (k : Context) (tick : ℕ) (p : Pattern) (fs : List Function)
    → checked (pattern_by k tick p) (as_pattern tick) fs ≡ checked (pattern_meaning p k) (λ x. as_pattern tick (pattern_operand k tick x)) fs
pattern-typed k tick p fs = then-by (pattern_meaning p k fs).result (pattern_operand k tick) (as_pattern tick) (pattern_meaning p k fs).functions

abbrev put : ℕ → Bool → Result Operand Halt → Result F.Inside Halt
put tick is_pattern (Ok o) = Ok (record { tick = tick; is_pattern = is_pattern; of = o })
put tick is_pattern (Err h) = Err h

put-value : (x : Typing Operand) (tick : ℕ) (r : Result Operand Halt) (fs gs : List Function) → TypesTo r (x fs) gs → TypesTo (put tick false r) (checked x (in_parentheses tick) fs) gs
put-value x tick (Ok o) fs gs h = checked-fine x (in_parentheses tick) fs gs gs o (put tick false (Ok o)) h refl
put-value x tick (Err e) fs gs h = checked-stops x (in_parentheses tick) fs gs e h

put-pattern : (x : Typing Operand) (tick : ℕ) (r : Result Operand Halt) (fs gs : List Function) → TypesTo r (x fs) gs → TypesTo (put tick true r) (checked x (as_pattern tick) fs) gs
put-pattern x tick (Ok o) fs gs h = checked-fine x (as_pattern tick) fs gs gs o (put tick true (Ok o)) h refl
put-pattern x tick (Err e) fs gs h = checked-stops x (as_pattern tick) fs gs e h

pub value-inside : (k : Context) (c : Cast) (tick opening closing : ℕ) (value : Expr) (r : Result Operand Halt) (fs gs : List Function) → c ≡ C.Value tick opening value closing
    → TypesTo r ((meaning value).typed k fs) gs → TypesTo (put tick false r) (inside_of k c fs) gs
value-inside k c tick opening closing value r fs gs is h =
    subst (λ (t : Typing F.Inside). TypesTo (put tick false r) (t fs) gs) (sym (ap (inside_of k) is ∙ inside-Value k tick opening closing value)) (put-value ((meaning value).typed k) tick r fs gs h)

pub pattern-inside : (k : Context) (c : Cast) (tick opening closing : ℕ) (p : Pattern) (r : Result Operand Halt) (fs gs : List Function) → c ≡ C.Pattern tick opening p closing
    → TypesTo r (pattern_by k tick p fs) gs → TypesTo (put tick true r) (inside_of k c fs) gs
pattern-inside k c tick opening closing p r fs gs is h =
    subst (λ (t : Typing F.Inside). TypesTo (put tick true r) (t fs) gs) (sym (ap (inside_of k) is ∙ inside-Pattern k tick opening closing p))
    (subst (λ (t : Typed F.Inside). TypesTo (put tick true r) t gs) (pattern-typed k tick p fs) (put-pattern (pattern_by k tick p) tick r fs gs h))

-- as a value that has bits
abbrev with_tick : ℕ → Valued → Typing (ℕ × Valued)
with_tick tick u = whole (tick, u)

bits-value : (tick : ℕ) (r : Checked Valued) (fs : List Function) → applied r (with_tick tick) fs ≡ record { result = where_whole r (λ u. Ok (tick, u)); functions = fs }
bits-value tick (Ok u) fs = refl
bits-value tick (Err b) fs = refl

bits-operand : (k : Source) (tick : ℕ) (r : Checked Valued) (fs : List Function)
    → applied (applied r (λ v. rule (has_bits k v)) fs).result (with_tick tick) (applied r (λ v. rule (has_bits k v)) fs).functions
    ≡ record { result = where_whole (where_whole r (has_bits k)) (λ u. Ok (tick, u)); functions = fs }
bits-operand k tick (Ok v) fs = bits-value tick (has_bits k v) fs
bits-operand k tick (Err b) fs = refl

one-inside : (k : Source) (i : F.Inside) (fs : List Function) → F.not_pattern k i (checked (bits_in k (whole i.of)) (with_tick i.tick)) fs ≡ rule (inside_bits k i) fs
one-inside k i fs = by i.is_pattern
  where
    by : (b : Bool) → cond b (broken {A = ℕ × Valued} (At (position k i.tick) 505)) (checked (bits_in k (whole i.of)) (with_tick i.tick)) fs
        ≡ record { result = cond b (Err (At (position k i.tick) 505)) (where_whole (where_whole (is_value k i.of) (has_bits k)) (λ u. Ok (i.tick, u))); functions = fs }
    by true = refl
    by false = bits-operand k i.tick (is_value k i.of) fs

-- by rules in a row
pub where-fine : {A B : Type 0} (x : Checked A) (f : A → Checked B) (a : A) (r : Result B Halt) → Gives (Ok a) x → Gives r (f a) → Gives r (where_whole x f)
where-fine {B = B} x f a r h g = subst (λ (y : Checked B). Gives r y) (sym (ap (λ y. where_whole y f) h)) g

pub where-stops : {A B : Type 0} (x : Checked A) (f : A → Checked B) (h : Halt) → Gives {A = A} (Err h) x → Gives {A = B} (Err h) (where_whole x f)
where-stops (Ok a) f H.Memory g = tt
where-stops (Ok a) f (H.Breaks at n) g = absurd (cc)
where-stops (Ok a) f H.Quiet g = absurd (cc)
where-stops (Err b) f h g = g

pub inside-pattern : (k : Source) (i : F.Inside) → i.is_pattern ≡ true → Gives {A = ℕ × Valued} (Err (H.Breaks i.tick 505)) (inside_bits k i)
inside-pattern k i is = ap (λ b. reason {A = ℕ × Valued} (cond b (Err (At (position k i.tick) 505)) (where_whole (operand_bits k i.of) (λ u. Ok (i.tick, u))))) is

abbrev tick_on : ℕ → Result Valued Halt → Result (ℕ × Valued) Halt
tick_on tick (Ok u) = Ok (tick, u)
tick_on tick (Err h) = Err h

inside-by : (tick : ℕ) (x : Checked Valued) (r : Result Valued Halt) → Gives r x → Gives (tick_on tick r) (where_whole x (λ u. Ok (tick, u)))
inside-by tick x (Ok u) g = where-fine x (λ v. Ok (tick, v)) u (Ok (tick, u)) g refl
inside-by tick x (Err h) g = where-stops x (λ v. Ok (tick, v)) h g

pub inside-value : (k : Source) (i : F.Inside) (r : Result Valued Halt) → i.is_pattern ≡ false → Gives r (operand_bits k i.of) → Gives (tick_on i.tick r) (inside_bits k i)
inside-value k i r is g =
    subst (λ (y : Checked (ℕ × Valued)). Gives (tick_on i.tick r) y) (sym (ap (λ b. cond b (Err (At (position k i.tick) 505)) (where_whole (operand_bits k i.of) (λ u. Ok (i.tick, u)))) is))
    (inside-by i.tick (operand_bits k i.of) r g)

applied-same : {A B : Type 0} (r : Checked A) (f g : A → Typing B) (fs : List Function) → ((a : A) → f a fs ≡ g a fs) → applied r f fs ≡ applied r g fs
applied-same (Ok a) f g fs h = h a
applied-same (Err b) f g fs h = refl

abbrev bits_typed : Source → F.Inside → Typing (ℕ × Valued)
bits_typed k i = rule (inside_bits k i)

bits-are : (k : Context) (c : Cast) (fs : List Function) → bits_of k c fs ≡ checked (inside_of k c) (bits_typed k.source) fs
bits-are k c fs =
    let t = inside_of k c fs in
    applied-same t.result (λ i. F.not_pattern k.source i (checked (bits_in k.source (whole i.of)) (with_tick i.tick))) (bits_typed k.source) t.functions (λ i. one-inside k.source i t.functions)

pub bits-types : (k : Context) (c : Cast) (i : F.Inside) (b : Result (ℕ × Valued) Halt) (fs gs : List Function) → TypesTo (Ok i) (inside_of k c fs) gs → Gives b (inside_bits k.source i)
    → TypesTo b (bits_of k c fs) gs
bits-types k c i b fs gs h g =
    subst (λ (t : Typed (ℕ × Valued)). TypesTo b t gs) (sym (bits-are k c fs))
    (checked-fine (inside_of k c) (bits_typed k.source) fs gs gs i b h (rule-types b (inside_bits k.source i) gs g))

pub bits-stop : (k : Context) (c : Cast) (h : Halt) (fs gs : List Function) → TypesTo {A = F.Inside} (Err h) (inside_of k c fs) gs → TypesTo {A = ℕ × Valued} (Err h) (bits_of k c fs) gs
bits-stop k c h fs gs t = subst (λ (u : Typed (ℕ × Valued)). TypesTo {A = ℕ × Valued} (Err h) u gs) (sym (bits-are k c fs)) (checked-stops (inside_of k c) (bits_typed k.source) fs gs h t)

-- sizes
within-by : (k : Source) (r : Checked Valued) (gs : List Function)
    → applied r (λ v. by_functions (is_number_in k (pos 1) F.most_of_size v)) gs ≡ record { result = where_whole r (λ v. is_number_in k (pos 1) F.most_of_size v gs); functions = gs }
within-by k (Ok v) gs = refl
within-by k (Err b) gs = refl

number-at : (k : Source) (x : Typing Operand) (o : Operand) (fs gs : List Function) → x fs ≡ record { result = Ok o; functions = gs }
    → number_within k (pos 1) F.most_of_size x fs ≡ rule (operand_number k (pos 1) F.most_of_size o gs) gs
number-at k x o fs gs h =
    ap
    (λ (t : Typed Operand).
    let c = applied t.result (λ p. rule (is_constant_value k p)) t.functions in
    applied c.result (λ v. by_functions (is_number_in k (pos 1) F.most_of_size v)) c.functions) h
    ∙ within-by k (is_constant_value k o) gs

abbrev the_size : Number → Typing ℕ
the_size n = whole (unsigned_abs n.number)

abbrev size_in : Result Number Halt → Result ℕ Halt
size_in (Ok n) = Ok (unsigned_abs n.number)
size_in (Err h) = Err h

size-by : (k : Source) (x : Typing Operand) (fs gs : List Function) (r : Result Number Halt) → TypesTo r (number_within k (pos 1) F.most_of_size x fs) gs → TypesTo (size_in r) (size_of k x fs) gs
size-by k x fs gs (Ok n) h = checked-fine (number_within k (pos 1) F.most_of_size x) the_size fs gs gs n (Ok (unsigned_abs n.number)) h refl
size-by k x fs gs (Err e) h = checked-stops (number_within k (pos 1) F.most_of_size x) the_size fs gs e h

pub size-types : (k : Source) (x : Typing Operand) (o : Operand) (fs gs : List Function) (r : Result Number Halt) → TypesTo (Ok o) (x fs) gs → Gives r (operand_number k (pos 1) F.most_of_size o gs)
    → TypesTo (size_in r) (size_of k x fs) gs
size-types k x o fs gs r h g =
    size-by k x fs gs r (subst (λ (t : Typed Number). TypesTo r t gs) (sym (number-at k x o fs gs h)) (rule-types r (operand_number k (pos 1) F.most_of_size o gs) gs g))

pub size-stop : (k : Source) (x : Typing Operand) (h : Halt) (fs gs : List Function) → TypesTo {A = Operand} (Err h) (x fs) gs → TypesTo {A = ℕ} (Err h) (size_of k x fs) gs
size-stop k x h fs gs t =
    checked-stops (number_within k (pos 1) F.most_of_size x) the_size fs gs h
    (checked-stops (constant_in k x) (λ v. by_functions (is_number_in k (pos 1) F.most_of_size v)) fs gs h (checked-stops x (λ p. rule (is_constant_value k p)) fs gs h t))

-- a size before what is cast
second-by : {A B C D : Type 0} (a : A) (m : A → B) (f : B → C → Typing D) (s : Checked C) (gs : List Function)
    → applied (joined (Ok (m a)) s) (λ p. f p.0 p.1) gs ≡ applied (joined (Ok a) s) (λ p. f (m p.0) p.1) gs
second-by a m f (Ok c) gs = refl
second-by a m f (Err b) gs = refl

broken-by : {A B C D : Type 0} (b : Breaks) (m : A → B) (f : B → C → Typing D) (s : Checked C) (gs : List Function)
    → applied (joined {A = B} (Err b) s) (λ p. f p.0 p.1) gs ≡ applied (joined {A = A} (Err b) s) (λ p. f (m p.0) p.1) gs
broken-by b m f (Ok c) gs = refl
broken-by b m f (Err d) gs = refl

both-by : {A B C D : Type 0} (r : Checked A) (m : A → B) (f : B → C → Typing D) (y : Typing C) (fs : List Function)
    → applied (joined (applied r (λ a. whole (m a)) fs).result (y (applied r (λ a. whole (m a)) fs).functions).result) (λ p. f p.0 p.1) (y (applied r (λ a. whole (m a)) fs).functions).functions
    ≡ applied (joined r (y fs).result) (λ p. f (m p.0) p.1) (y fs).functions
both-by (Ok a) m f y fs = second-by a m f (y fs).result (y fs).functions
both-by (Err b) m f y fs = broken-by b m f (y fs).result (y fs).functions

pub by-size-types : (k : Context) (first : ℕ) (x : Typing Operand) (c : Cast) (r : Result Valued Halt) (fs gs : List Function) → TypesTo r (sized k first (size_of k.source x) c fs) gs
    → TypesTo r (by_size k first x c fs) gs
by-size-types k first x c r fs gs h =
    subst (λ (t : Typed Valued). TypesTo r t gs)
    (both-by (number_within k.source (pos 1) F.most_of_size x fs).result (λ (n : Number). unsigned_abs n.number) (λ m p. rule (F.size_cast k.source first m p)) (bits_of k c)
    (number_within k.source (pos 1) F.most_of_size x fs).functions) h

-- a type before what is cast
pub by-type-fine : (k : Context) (first : ℕ) (x : Typing SvType) (c : Cast) (u : SvType) (j : F.Inside) (r : Result Valued Halt) (fs gs hs : List Function) → TypesTo (Ok u) (x fs) gs
    → TypesTo (Ok j) (inside_of k c gs) hs → Gives r (F.type_cast k.source first u j) → TypesTo r (typed_by k first x c fs) hs
by-type-fine k first x c u j r fs gs hs h q g =
    checked-fine (beside x (inside_of k c)) (λ p. rule (F.type_cast k.source first p.0 p.1)) fs hs hs (u, j) r (beside-fine x (inside_of k c) fs gs hs u j h q)
    (rule-types r (F.type_cast k.source first u j) hs g)
