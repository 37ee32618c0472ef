-- What items show, as the code goes over them.
use Rattle.std.proofs.Common.{ℤ, get_or, ◌≡◌, ◌<◌, ◌≤◌, ℕ, ◌+◌, true, false, cond, List, [], ◌∷◌, length, replicate, drop, Option, Some, arith, ap, sym, ◌∙◌}
use Rattle.std.specs.Prelude.{◌-ℤ◌, flat_map, unsigned_abs, zip}
use Rattle.sv_types.specs.Layouts.{count_of}
use Rattle.sv_types.specs.declared.types.Member.{Member}
use Rattle.sv_types.specs.declared.types.SvType.{SvType}
use Rattle.pattern_fit.specs.declared.pattern.PatternItem.{PatternItem}
use Rattle.pattern_fit.specs.declared.pattern.Rest.{Rest}
use Rattle.expr_type.specs.Answers.{reason}
use Rattle.expr_type.specs.Names.{Source}
use Rattle.expr_type.specs.Operands.{Operand, is_value, passed}
use Rattle.expr_type.specs.Patterns.{Taken, takes_itself, tries, types_in}
use Rattle.expr_type.specs.Typings.{all_of}
use Rattle.pattern_laws.specs.Reasons.{Reason, followed_by, lesser_tried, or_alone, tried_over}
use Rattle.pattern_laws.proofs.Order.{tried-none}
use Rattle.pattern_laws.proofs.Reasons.{followed-none}
use Rattle.pattern_types.specs.declared.operand.Item as J
use Rattle.pattern_types.specs.declared.wanted.Wanted.{Wanted}
use Rattle.pattern_types.specs.declared.wanted.Wanted.TheVariants as W
use Rattle.pattern_types.specs.Leaves.{leaves_of, member_types, number_behind, wanted_at, wanted_in, wanted_types, wants}
use Rattle.pattern_types.specs.Meaning.{filled, item_of, operand_of, written, written_items}
use Rattle.pattern_types.proofs.Fronts.{at-front, member-front, members-left, none-left}
use Rattle.pattern_types.proofs.Here.{given-so}
use Rattle.pattern_types.proofs.Leaves.{leaves-level}
use Rattle.pattern_types.proofs.Showing.{is-wanted, leaves-again, not-wanted, one-item, one-leaf}

-- items
pub number-within : (w : Wanted) (n : ℕ) → number_behind w n ≤ n + 1
number-within W.Default n = omega arith
number-within (W.Numbered m) n = omega arith

pub item-next : (k : Source) (count : ℕ) (rest : Rest) (ps : List Taken) (items : List J.Item) (i n m : ℕ) (x : J.Item) (w : Wanted) (seen next look : Reason) (o : Option Reason) (total : Reason)
    → i < length items → x ≡ get_or items i x → w ≡ wanted_at (written x.key) n → m ≡ number_behind w n
    → o ≡ tried_over k (operand_of k x.value) (wanted_types w count rest ps)
    → look ≡ or_alone (reason (is_value k (operand_of k x.value))) o → next ≡ followed_by seen look
    → followed_by seen (reason (all_of (tries k count rest ps n (written_items k (drop i items))))) ≡ total
    → followed_by next (reason (all_of (tries k count rest ps m (written_items k (drop (i + 1) items))))) ≡ total
item-next k count rest ps items i n m x w seen next look o total less is wis mis g h s inv =
    let y = item_of (filled k x) in
    let more = written_items k (drop (i + 1) items) in
    let at : m ≡ number_behind (wanted_at (written x.key) n) n = mis ∙ ap (λ u. number_behind u n) wis in
    ap (λ r. followed_by r (reason (all_of (tries k count rest ps m more)))) s
    ∙ ap (λ j. followed_by (followed_by seen look) (reason (all_of (tries k count rest ps j more)))) at
    ∙ one-item k count rest ps n y more seen look o (given-so k x.value) h (g ∙ ap (λ u. tried_over k (operand_of k x.value) (wanted_types u count rest ps)) wis)
    ∙ sym (ap (λ (xs : List J.Item). followed_by seen (reason (all_of (tries k count rest ps n (written_items k xs))))) (at-front items i x less is))
    ∙ inv

pub items-end : (k : Source) (count : ℕ) (rest : Rest) (ps : List Taken) (items : List J.Item) (i n : ℕ) (seen total : Reason) → length items ≤ i
    → followed_by seen (reason (all_of (tries k count rest ps n (written_items k (drop i items))))) ≡ total → seen ≡ total
items-end k count rest ps items i n seen total h inv =
    sym (followed-none seen) ∙ sym (ap (λ (xs : List J.Item). followed_by seen (reason (all_of (tries k count rest ps n (written_items k xs))))) (none-left items i h)) ∙ inv

-- members
abbrev later : Source → Operand → Wanted → ℕ → Rest → List PatternItem → List Member → ℕ → Option Reason
later k v w count rest takes ms n = tried_over k v (wanted_types w count rest (zip (drop n takes) (member_types (drop n ms))))

pub member-wanted : (k : Source) (v : Operand) (w : Wanted) (count : ℕ) (rest : Rest) (takes : List PatternItem) (ms : List Member) (n : ℕ) (x : PatternItem) (m : Member) (seen next look total : Option Reason)
    → n < length takes → n < length ms → x ≡ get_or takes n x → m ≡ get_or ms n m → wants w count x ≡ true
    → look ≡ tried_over k v (wanted_in w rest m.of) → next ≡ lesser_tried seen look
    → lesser_tried seen (tried_over k v (wanted_types w count rest (zip (drop n takes) (member_types (drop n ms))))) ≡ total
    → lesser_tried next (tried_over k v (wanted_types w count rest (zip (drop (n + 1) takes) (member_types (drop (n + 1) ms))))) ≡ total
member-wanted k v w count rest takes ms n x m seen next look total l h is at on g s inv =
    ap (λ r. lesser_tried r (later k v w count rest takes ms (n + 1))) s
    ∙ is-wanted k v w count rest seen look x m.of (zip (drop (n + 1) takes) (member_types (drop (n + 1) ms))) on g
    ∙ sym (ap (λ (ps : List Taken). lesser_tried seen (tried_over k v (wanted_types w count rest ps))) (member-front takes ms n x m l h is at))
    ∙ inv

pub member-not : (k : Source) (v : Operand) (w : Wanted) (count : ℕ) (rest : Rest) (takes : List PatternItem) (ms : List Member) (n : ℕ) (x : PatternItem) (m : Member) (seen next total : Option Reason)
    → n < length takes → n < length ms → x ≡ get_or takes n x → m ≡ get_or ms n m → wants w count x ≡ false → next ≡ seen
    → lesser_tried seen (tried_over k v (wanted_types w count rest (zip (drop n takes) (member_types (drop n ms))))) ≡ total
    → lesser_tried next (tried_over k v (wanted_types w count rest (zip (drop (n + 1) takes) (member_types (drop (n + 1) ms))))) ≡ total
member-not k v w count rest takes ms n x m seen next total l h is at off s inv =
    ap (λ r. lesser_tried r (later k v w count rest takes ms (n + 1))) s
    ∙ not-wanted k v w count rest seen x m.of (zip (drop (n + 1) takes) (member_types (drop (n + 1) ms))) off
    ∙ sym (ap (λ (ps : List Taken). lesser_tried seen (tried_over k v (wanted_types w count rest ps))) (member-front takes ms n x m l h is at))
    ∙ inv

pub members-end : (k : Source) (v : Operand) (w : Wanted) (count : ℕ) (rest : Rest) (takes : List PatternItem) (ms : List Member) (n : ℕ) (seen total : Option Reason) → length takes ≤ n
    → lesser_tried seen (tried_over k v (wanted_types w count rest (zip (drop n takes) (member_types (drop n ms))))) ≡ total → seen ≡ total
members-end k v w count rest takes ms n seen total h inv =
    sym (tried-none seen)
    ∙ sym (ap (λ (ps : List Taken). lesser_tried seen (tried_over k v (wanted_types w count rest ps))) (members-left takes ms n h))
    ∙ inv

-- members that the value of `default` is spread to
pub leaf-next : (k : Source) (v : Operand) (rest : Rest) (ms : List Member) (n : ℕ) (m : Member) (seen next look total : Option Reason) → n < length ms → m ≡ get_or ms n m
    → look ≡ tried_over k v (leaves_of rest m.of) → next ≡ lesser_tried seen look
    → lesser_tried seen (tried_over k v (flat_map (leaves_of rest) (member_types (drop n ms)))) ≡ total
    → lesser_tried next (tried_over k v (flat_map (leaves_of rest) (member_types (drop (n + 1) ms)))) ≡ total
leaf-next k v rest ms n m seen next look total h at g s inv =
    let more = flat_map (leaves_of rest) (member_types (drop (n + 1) ms)) in
    ap (λ r. lesser_tried r (tried_over k v more)) s
    ∙ one-leaf k v seen look (leaves_of rest m.of) more g
    ∙ sym (ap (λ (ys : List Member). lesser_tried seen (tried_over k v (flat_map (leaves_of rest) (member_types ys)))) (at-front ms n m h at))
    ∙ inv

pub leaves-end : (k : Source) (v : Operand) (rest : Rest) (ms : List Member) (n : ℕ) (seen total : Option Reason) → length ms ≤ n
    → lesser_tried seen (tried_over k v (flat_map (leaves_of rest) (member_types (drop n ms)))) ≡ total → seen ≡ total
leaves-end k v rest ms n seen total h inv =
    sym (tried-none seen)
    ∙ sym (ap (λ (ys : List Member). lesser_tried seen (tried_over k v (flat_map (leaves_of rest) (member_types ys)))) (none-left ms n h))
    ∙ inv

-- a type that doesn't take the value itself, and one that does
pub over-types : (k : Source) (v : Operand) (rest : Rest) (t : SvType) (ts : List SvType) → takes_itself rest t ≡ false → types_in t ≡ ts
    → tried_over k v (flat_map (leaves_of rest) ts) ≡ tried_over k v (leaves_of rest t)
over-types k v rest t ts off types =
    sym (ap (tried_over k v) (leaves-level rest t) ∙ ap (λ b. tried_over k v (cond b (t ∷ []) (flat_map (leaves_of rest) (types_in t)))) off
    ∙ ap (λ us. tried_over k v (flat_map (leaves_of rest) us)) types)

pub over-itself : (k : Source) (v : Operand) (rest : Rest) (t : SvType) → takes_itself rest t ≡ true → tried_over k v (leaves_of rest t) ≡ Some (reason (passed k t v))
over-itself k v rest t on =
    ap (tried_over k v) (leaves-level rest t) ∙ ap (λ b. tried_over k v (cond b (t ∷ []) (flat_map (leaves_of rest) (types_in t)))) on

-- an array: its elements are of one type
pub array-leaves : (k : Source) (v : Operand) (rest : Rest) (t item : SvType) (l r : ℤ) → takes_itself rest t ≡ false → types_in t ≡ replicate (count_of l r) item
    → tried_over k v (leaves_of rest item) ≡ tried_over k v (leaves_of rest t)
array-leaves k v rest t item l r off types =
    sym (leaves-again k v (leaves_of rest) (unsigned_abs (l -ℤ r)) item) ∙ over-types k v rest t (replicate (count_of l r) item) off types
