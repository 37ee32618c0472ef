-- The checks by tables are those of the rules.
use Rattle.std.proofs.Common.{◌≡◌, ◌≤◌, ℕ, zero, suc, ◌+◌, Option, Some, None, length, Bool, true, false, not, cond, ◌&&◌, ◌||◌, List, [], ◌∷◌, ◌++◌, map, sum, find, take, drop, drop-cons, slice_index_or, ◌<◌, refl, sym, ap, ◌∙◌, arith, add-one, append_assoc}
use Rattle.std.specs.List.{list_all, fold, filter}
use Rattle.std.specs.Prelude.{IsTrue, ◌↔◌}
use Rattle.std.specs.Str.{bytes_eq}
use Rattle.std.specs.Option.{is_some, option_or}
use Rattle.std.proofs.lemmas.Bool.Decides.{same_from_decides}
use Rattle.std.proofs.lemmas.Slice.Eq.{bytes_eq-Decides}
use Rattle.sv_source.specs.declared.token.Spot.{Spot}
use Rattle.sv_core.specs.declared.design.SignalKind.{SignalKind}
use Rattle.sv_core.specs.declared.design.SignalKind.TheVariants.{InputNet, OutputVar, Variable}
use Rattle.sv_core.specs.declared.design.Signal.{Signal}
use Rattle.lower_design.specs.Translatable.{is_helper_name}
use Rattle.v_tree.specs.Names.{among}
use Rattle.sv2v_top.specs.declared.uses.Use.{Use}
use Rattle.sv2v_top.specs.declared.uses.Role.{Role}
use Rattle.sv2v_top.specs.declared.uses.Role.TheVariants.{Target, Read, Clock}
use Rattle.built_forms.specs.declared.forms.Direction.{Direction}
use Rattle.built_forms.specs.declared.forms.Direction.TheVariants.{Input}
use Rattle.built_forms.specs.declared.forms.Module.{Module}
use Rattle.built_forms.specs.declared.forms.Range.{Range}
use Rattle.built_forms.specs.declared.forms.Port.{Port}
use Rattle.built_forms.specs.declared.forms.Item.{Item}
use Rattle.sv2v_top.specs.declared.name_table.Names.{Names}
use Rattle.sv2v_top.specs.source.Names.{Declared, ports_from, direction_after, range_after, variables, declared_by, name_of, port_word, port_names, signal_names, undeclared, undeclared_in}
use Rattle.sv2v_top.specs.source.Statements.{item_parts, word_of, if_target, targets_in, in_both}
use Rattle.sv2v_top.specs.source.Rules.{total_bits, signal_of, width_of, is_plain_range, ranges_are_plain, inputs, if_input, input_paths, all_among, none_among}
use Rattle.sv2v_top.specs.source.Lookup.{Numbers, holds}
use Rattle.sv2v_top.proofs.Lookup.{some-among}
use Rattle.sv2v_top.proofs.Names.{append-nil}

pub all-append : {A : Type 0} (p : A → Bool) (xs ys : List A) → list_all p (xs ++ ys) ≡ (list_all p xs && list_all p ys)
all-append p [] ys = refl
all-append p (x ∷ xs) ys = ap (λ b. p x && b) (all-append p xs ys) ∙ and-assoc (p x) (list_all p xs) (list_all p ys)
  where
    and-assoc : (a b c : Bool) → (a && (b && c)) ≡ ((a && b) && c)
    and-assoc true b c = refl
    and-assoc false b c = refl

-- no helper among the signals
pub helpers-named : (ds : List Declared) → list_all (λ (s : Signal). not (is_helper_name s.path)) (map signal_of ds) ≡ list_all (λ name. not (is_helper_name name)) (map name_of ds)
helpers-named [] = refl
helpers-named (d ∷ ds) = ap (λ b. not (is_helper_name d.name.word) && b) (helpers-named ds)

-- whether ranges are plain doesn't hang on directions
pub plain-any : (a b : Direction) (range : Option Range) (ports : List Port) → ranges_are_plain (ports_from a range ports) ≡ ranges_are_plain (ports_from b range ports)
plain-any a b range [] = refl
plain-any a b range (p ∷ ports) = ap (λ r. is_plain_range (range_after range p.head) && r) (plain-any (direction_after a p.head) (direction_after b p.head) (range_after range p.head) ports)

pub plain-items : (items : List Item) → list_all (λ i. ranges_are_plain (declared_by i)) items ≡ ranges_are_plain (variables items)
plain-items [] = refl
plain-items (i ∷ items) = ap (λ b. ranges_are_plain (declared_by i) && b) (plain-items items) ∙ sym (all-append _ (declared_by i) (variables items))

-- the inputs, by their signals
pub inputs-named : (ds : List Declared) → input_paths (map signal_of ds) ≡ inputs ds
inputs-named [] = refl
inputs-named (d ∷ ds) = ap (if_input d.kind d.name.word) (inputs-named ds)

pub if_input-append : (kind : SignalKind) (path : List ℕ) (xs ys : List (List ℕ)) → if_input kind path (xs ++ ys) ≡ if_input kind path xs ++ ys
if_input-append InputNet path xs ys = refl
if_input-append OutputVar path xs ys = refl
if_input-append Variable path xs ys = refl

pub inputs-suc : (xs : List Signal) (i : ℕ) (x : Signal) → i < length xs → x ≡ slice_index_or xs i x → input_paths (take (suc i) xs) ≡ input_paths (take i xs) ++ if_input x.kind x.path []
inputs-suc [] i x h e = absurd (omega arith)
inputs-suc (y ∷ ys) zero x h e = ap (λ (z : Signal). if_input z.kind z.path []) (sym e)
inputs-suc (y ∷ ys) (suc i) x h e = ap (if_input y.kind y.path) (inputs-suc ys i x (omega arith) e) ∙ if_input-append y.kind y.path _ _

pub inputs-more : (xs : List Signal) (i : ℕ) (x : Signal) → i < length xs → x ≡ slice_index_or xs i x → input_paths (take (i + 1) xs) ≡ input_paths (take i xs) ++ if_input x.kind x.path []
inputs-more xs i x h e = ap (λ k. input_paths (take k xs)) (add-one i) ∙ inputs-suc xs i x h e

pub fold-from : (a : ℕ) (xs : List ℕ) → fold ◌+◌ a xs ≡ a + fold ◌+◌ 0 xs
fold-from a [] = omega arith
fold-from a (x ∷ xs) = (let first = fold-from (a + x) xs in let second = fold-from (0 + x) xs in omega arith)

pub sum-cons : (x : ℕ) (xs : List ℕ) → sum (x ∷ xs) ≡ x + sum xs
sum-cons x xs = (let e = fold-from (0 + x) xs in omega arith)

pub bits-summed : (ds : List Declared) → sum (map (λ (s : Signal). s.width) (map signal_of ds)) ≡ total_bits ds
bits-summed [] = refl
bits-summed (d ∷ ds) = sum-cons (width_of d) (map (λ (s : Signal). s.width) (map signal_of ds)) ∙ ap (λ n. width_of d + n) (bits-summed ds) ∙ sym (sum-cons (width_of d) (map width_of ds))

module _ (table : Names) (names : List (List ℕ)) (n : Numbers table names) where
  -- the table has the names and no other
  pub holds-among : (w : List ℕ) → holds table w ≡ among names w
  holds-among w = ap is_some (n.numbers w) ∙ some-among names w

  pub uses-held : (uses : List Use) → list_all (λ (u : Use). holds table u.name.word) uses ≡ all_among names uses
  uses-held [] = refl
  uses-held (u ∷ uses) = λ i. holds-among u.name.word i && uses-held uses i

  pub spots-free : (spots : List Spot) → list_all (λ (s : Spot). not (holds table s.word)) spots ≡ none_among names spots
  spots-free [] = refl
  spots-free (s ∷ spots) = λ i. not (holds-among s.word i) && spots-free spots i

  pub unknown-uses : (own : List ℕ) (uses : List Use)
      → find (λ (u : Use). not (holds table u.name.word || bytes_eq own u.name.word)) uses ≡ find (λ (u : Use). not (among names u.name.word || bytes_eq own u.name.word)) uses
  unknown-uses own [] = refl
  unknown-uses own (u ∷ uses) = λ i. cond (not (holds-among u.name.word i || bytes_eq own u.name.word)) (Some u) (unknown-uses own uses i)

  pub held-both : (xs : List (List ℕ)) → filter (λ w. holds table w) xs ≡ filter (λ w. among names w) xs
  held-both [] = refl
  held-both (x ∷ xs) = λ i. cond (holds-among x i) (x ∷ held-both xs i) (held-both xs i)

pub plain-step : (range : Option Range) (ports : List Port) (i : ℕ) (p : Port) → i < length ports → p ≡ slice_index_or ports i p
    → ranges_are_plain (ports_from Input range (drop i ports)) ≡ (is_plain_range (range_after range p.head) && ranges_are_plain (ports_from Input (range_after range p.head) (drop (i + 1) ports)))
plain-step range ports i p h e =
    ap (λ ps. ranges_are_plain (ports_from Input range ps)) (drop-cons ports i p h ∙ ap (λ q. q ∷ drop (suc i) ports) (sym e) ∙ ap (λ k. p ∷ drop k ports) (sym (add-one i)))
    ∙ ap (λ b. is_plain_range (range_after range p.head) && b) (plain-any (direction_after Input p.head) Input (range_after range p.head) (drop (i + 1) ports))

pub if_target-append : (u : Use) (xs ys : List Spot) → if_target u.role u.name (xs ++ ys) ≡ if_target u.role u.name xs ++ ys
if_target-append u xs ys = by_role u.role
  where
    by_role : (r : Role) → if_target r u.name (xs ++ ys) ≡ if_target r u.name xs ++ ys
    by_role Target = refl
    by_role Read = refl
    by_role Clock = refl

pub targets-suc : (us : List Use) (i : ℕ) (u : Use) → i < length us → u ≡ slice_index_or us i u → targets_in (take (suc i) us) ≡ targets_in (take i us) ++ targets_in (u ∷ [])
targets-suc [] i u h e = absurd (omega arith)
targets-suc (v ∷ vs) zero u h e = ap (λ (z : Use). if_target z.role z.name []) (sym e)
targets-suc (v ∷ vs) (suc i) u h e = ap (if_target v.role v.name) (targets-suc vs i u (omega arith) e) ∙ if_target-append v (targets_in (take i vs)) (targets_in (u ∷ []))

pub map-append : {A B : Type 0} (f : A → B) (xs ys : List A) → map f (xs ++ ys) ≡ map f xs ++ map f ys
map-append f [] ys = refl
map-append f (x ∷ xs) ys = ap (λ zs. f x ∷ zs) (map-append f xs ys)

pub targets-more : (ns : List (List ℕ)) (us : List Use) (i : ℕ) (u : Use) → i < length us → u ≡ slice_index_or us i u
    → (ns ++ map word_of (targets_in (take i us))) ++ map word_of (targets_in (u ∷ [])) ≡ ns ++ map word_of (targets_in (take (i + 1) us))
targets-more ns us i u h e =
    append_assoc ns (map word_of (targets_in (take i us))) (map word_of (targets_in (u ∷ [])))
    ∙ ap (λ ws. ns ++ ws) (sym (map-append word_of (targets_in (take i us)) (targets_in (u ∷ []))) ∙ ap (map word_of) (sym (targets-suc us i u h e)) ∙ ap (λ k. map word_of (targets_in (take k us))) (sym (add-one i)))

-- variables of one more item
pub variables-append : (xs ys : List Item) → variables (xs ++ ys) ≡ variables xs ++ variables ys
variables-append [] ys = refl
variables-append (x ∷ xs) ys = ap (λ zs. declared_by x ++ zs) (variables-append xs ys) ∙ sym (append_assoc (declared_by x) (variables xs) (variables ys))

pub take-more : {A : Type 0} (xs : List A) (i : ℕ) (x : A) → i < length xs → x ≡ slice_index_or xs i x → take (i + 1) xs ≡ take i xs ++ x ∷ []
take-more xs i x h e = ap (λ k. take k xs) (add-one i) ∙ go xs i x h e
  where
    go : {A : Type 0} (xs : List A) (i : ℕ) (x : A) → i < length xs → x ≡ slice_index_or xs i x → take (suc i) xs ≡ take i xs ++ x ∷ []
    go [] i x h e = absurd (omega arith)
    go (y ∷ ys) zero x h e = ap (λ z. z ∷ []) (sym e)
    go (y ∷ ys) (suc i) x h e = ap (λ zs. y ∷ zs) (go ys i x (omega arith) e)

pub named-more : (ports : List (List ℕ)) (items : List Item) (i : ℕ) (x : Item) → i < length items → x ≡ slice_index_or items i x
    → (ports ++ map name_of (variables (take i items))) ++ map name_of (declared_by x) ≡ ports ++ map name_of (variables (take (i + 1) items))
named-more ports items i x h e =
    append_assoc ports (map name_of (variables (take i items))) (map name_of (declared_by x))
    ∙ ap (λ ws. ports ++ ws) (sym (map-append name_of (variables (take i items)) (declared_by x))
    ∙ ap (map name_of) (ap (λ ds. variables (take i items) ++ ds) (sym (append-nil (declared_by x))) ∙ sym (variables-append (take i items) (x ∷ [])) ∙ ap variables (sym (take-more items i x h e))))

-- the names of the ports are those of what they declare
pub ports-named : (direction : Direction) (range : Option Range) (ports : List Port) → map name_of (ports_from direction range ports) ≡ map port_word ports
ports-named direction range [] = refl
ports-named direction range (p ∷ ports) = ap (λ ws. p.name.word ∷ ws) (ports-named (direction_after direction p.head) (range_after range p.head) ports)

pub signals-named : (m : Module) → port_names m ++ map name_of (variables m.items) ≡ signal_names m
signals-named m =
    ap (λ ws. ws ++ map name_of (variables m.items)) (sym (ports-named Input None m.ports)) ∙ sym (map-append name_of (ports_from Input None m.ports) (variables m.items))

pub in-none : (xs : List (List ℕ)) → in_both xs [] ≡ []
in-none [] = refl
in-none (x ∷ xs) = in-none xs

pub take-past : {A : Type 0} (xs : List A) (i : ℕ) → length xs ≤ i → take i xs ≡ xs
take-past [] zero h = refl
take-past [] (suc i) h = refl
take-past (x ∷ xs) zero h = absurd (omega arith)
take-past (x ∷ xs) (suc i) h = ap (λ ys. x ∷ ys) (take-past xs i (omega arith))

pub drop-past : {A : Type 0} (xs : List A) (i : ℕ) → length xs ≤ i → drop i xs ≡ []
drop-past [] zero h = refl
drop-past [] (suc i) h = refl
drop-past (x ∷ xs) zero h = absurd (omega arith)
drop-past (x ∷ xs) (suc i) h = drop-past xs i (omega arith)

pub drop-here : {A : Type 0} (xs : List A) (i : ℕ) (x : A) → i < length xs → x ≡ slice_index_or xs i x → drop i xs ≡ x ∷ drop (i + 1) xs
drop-here xs i x h e = drop-cons xs i x h ∙ ap (λ z. z ∷ drop (suc i) xs) (sym e) ∙ ap (λ k. x ∷ drop k xs) (sym (add-one i))

-- the first use of an unknown name in an item, or behind it
pub first-here : (own : List ℕ) (ns : List (List ℕ)) (items : List Item) (i : ℕ) (x : Item) (u : Use) → i < length items → x ≡ slice_index_or items i x
    → undeclared own ns (item_parts x).names ≡ Some u → undeclared_in own ns (drop i items) ≡ Some u
first-here own ns items i x u h e f =
    ap (undeclared_in own ns) (drop-here items i x h e) ∙ ap (λ o. option_or o (undeclared_in own (ns ++ map name_of (declared_by x)) (drop (i + 1) items))) f

pub first-later : (own : List ℕ) (ns : List (List ℕ)) (items : List Item) (i : ℕ) (x : Item) → i < length items → x ≡ slice_index_or items i x
    → undeclared own ns (item_parts x).names ≡ None → undeclared_in own ns (drop i items) ≡ undeclared_in own (ns ++ map name_of (declared_by x)) (drop (i + 1) items)
first-later own ns items i x h e f =
    ap (undeclared_in own ns) (drop-here items i x h e) ∙ ap (λ o. option_or o (undeclared_in own (ns ++ map name_of (declared_by x)) (drop (i + 1) items))) f

-- the test of equal bytes
pub is-bytes : (r : Bool) (a b : List ℕ) → (IsTrue r ↔ (a ≡ b)) → r ≡ bytes_eq a b
is-bytes r a b e = same_from_decides r (bytes_eq a b) e (bytes_eq-Decides a b)
