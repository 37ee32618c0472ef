-- What a value shows for some types.
use Rattle.std.proofs.Common.{◌≡◌, List, [], ◌∷◌, ◌++◌, map, Option, Some, None, refl, ap, sym, ◌∙◌}
use Rattle.std.specs.Prelude.{Ok, Err}
use Rattle.sv_types.specs.declared.types.SvType.{SvType}
use Rattle.expr_type.specs.Answers.{reason}
use Rattle.expr_type.specs.Names.{Source}
use Rattle.expr_type.specs.Operands.{Operand, is_value, passed}
use Rattle.expr_type.specs.Patterns.{tried}
use Rattle.expr_type.specs.Typings.{Checked, least_of_all, lesser, where_whole}
use Rattle.pattern_laws.specs.Reasons.{IsWhole, Reason, lesser_reason, lesser_tried, or_alone, tried_over}
use Rattle.pattern_laws.proofs.Order.{HereIf, lesser-here, lesser-reason, reason-none, tried-assoc, tried-same}
use Rattle.pattern_laws.proofs.Reasons.{where-fine}

pub over-append : (k : Source) (v : Operand) (ts us : List SvType) → tried_over k v (ts ++ us) ≡ lesser_tried (tried_over k v ts) (tried_over k v us)
over-append k v [] us = refl
over-append k v (t ∷ ts) us =
    ap (λ r. lesser_tried (Some (reason (passed k t v))) r) (over-append k v ts us) ∙ sym (tried-assoc (Some (reason (passed k t v))) (tried_over k v ts) (tried_over k v us))

-- one type, and the same types once more
pub over-one : (k : Source) (v : Operand) (t : SvType) → tried_over k v (t ∷ []) ≡ Some (reason (passed k t v))
over-one k v t = refl

pub over-again : (k : Source) (v : Operand) (ts : List SvType) → tried_over k v (ts ++ ts) ≡ tried_over k v ts
over-again k v ts = over-append k v ts ts ∙ tried-same (tried_over k v ts)

-- all breaks of a value that is given stand in one text
abbrev pub HereGiven : Source → Operand → Type 0
HereGiven k v = (t : SvType) → HereIf k (passed k t v)

made-here : {A B : Type 0} (k : Source) (m : Checked A) (g : A → B) → HereIf k m → HereIf k (where_whole m (λ a. Ok (g a)))
made-here k (Ok a) g h = tt
made-here k (Err b) g h = h

pub least-here : (k : Source) (v : Operand) (ts : List SvType) → HereGiven k v → HereIf k (least_of_all (map (λ u. passed k u v) ts))
least-here k v [] h = tt
least-here k v (t ∷ ts) h =
    let rest = least_of_all (map (λ u. passed k u v) ts) in
    made-here k (lesser (passed k t v) rest) (λ p. p.0 ∷ p.1) (lesser-here k (passed k t v) rest (h t) (least-here k v ts h))

abbrev or_whole : Option Reason → Reason
or_whole None = None
or_whole (Some r) = r

joins : (a : Reason) (o : Option Reason) → lesser_reason a (or_whole o) ≡ or_whole (lesser_tried (Some a) o)
joins a None = reason-none a
joins a (Some r) = refl

least-is : (k : Source) (v : Operand) (ts : List SvType) → HereGiven k v → reason (least_of_all (map (λ u. passed k u v) ts)) ≡ or_whole (tried_over k v ts)
least-is k v [] h = refl
least-is k v (t ∷ ts) h =
    let rest = least_of_all (map (λ u. passed k u v) ts) in
    where-fine (lesser (passed k t v) rest) (λ p. p.0 ∷ p.1) ∙ lesser-reason k (passed k t v) rest (h t) (least-here k v ts h)
    ∙ ap (λ r. lesser_reason (reason (passed k t v)) r) (least-is k v ts h) ∙ joins (reason (passed k t v)) (tried_over k v ts)

some-tried : (a : Reason) (alone : Reason) (o : Option Reason) → or_whole (lesser_tried (Some a) o) ≡ or_alone alone (lesser_tried (Some a) o)
some-tried a alone None = refl
some-tried a alone (Some r) = refl

pub tried-is : (k : Source) (v : Operand) (ts : List SvType) → HereGiven k v → reason (tried k v ts) ≡ or_alone (reason (is_value k v)) (tried_over k v ts)
tried-is k v [] h = where-fine (is_value k v) (λ u. [])
tried-is k v (t ∷ ts) h = least-is k v (t ∷ ts) h ∙ some-tried (reason (passed k t v)) (reason (is_value k v)) (tried_over k v ts)

-- a value that is whole where it is given to some types is whole in each of them
abbrev pub AllPassed : Source → Operand → List SvType → Type 0
AllPassed k v [] = Unit {0}
AllPassed k v (t ∷ ts) = IsWhole (passed k t v) × AllPassed k v ts

lesser-left : {A B : Type 0} (x : Checked A) (y : Checked B) → IsWhole (lesser x y) → IsWhole x × IsWhole y
lesser-left (Ok a) (Ok b) h = (refl, refl)
lesser-left (Ok a) (Err y) h = absurd (cc)
lesser-left (Err x) (Ok b) h = absurd (cc)
lesser-left (Err x) (Err y) h = absurd (cc)

all-by : (k : Source) (v : Operand) (ts : List SvType) → IsWhole (least_of_all (map (λ u. passed k u v) ts)) → AllPassed k v ts
all-by k v [] h = tt
all-by k v (t ∷ ts) h =
    let rest = least_of_all (map (λ u. passed k u v) ts) in
    let both = lesser-left (passed k t v) rest (sym (where-fine (lesser (passed k t v) rest) (λ p. p.0 ∷ p.1)) ∙ h) in
    (both.0, all-by k v ts both.1)

pub all-passed : (k : Source) (v : Operand) (ts : List SvType) → IsWhole (tried k v ts) → AllPassed k v ts
all-passed k v [] h = tt
all-passed k v (t ∷ ts) h = all-by k v (t ∷ ts) h

pub passed-front : (k : Source) (v : Operand) (ts us : List SvType) → AllPassed k v (ts ++ us) → AllPassed k v ts
passed-front k v [] us h = tt
passed-front k v (t ∷ ts) us h = (h.0, passed-front k v ts us h.1)

pub passed-back : (k : Source) (v : Operand) (ts us : List SvType) → AllPassed k v (ts ++ us) → AllPassed k v us
passed-back k v [] us h = h
passed-back k v (t ∷ ts) us h = passed-back k v ts us h.1
