-- A property of tokens that lexing and moving keep: of macros and of the bodies that are placed.
use Rattle.std.proofs.Common.{ℕ, zero, suc, Bool, true, false, cond, List, [], ◌∷◌, ◌++◌, drop, slice_index_or, Option, Some, None, All, codes}
use Rattle.std.specs.Option.{IfSome, option_map, option_and_then}
use Rattle.std.specs.Str.{bytes_eq}
use Rattle.std.proofs.lemmas.List.Elements.{All-nil, All-cons, All-head, All-tail, All-append, All-drop, All-map, All-weaker}
use Rattle.sv_source.specs.declared.token.Place.{Place}
use Rattle.sv_source.specs.declared.token.Token.{Token}
use Rattle.sv_lexer.specs.Lexing.{tokens_of}
use Rattle.sv_macro.specs.Tokens.{is, is_name, moved}
use Rattle.sv_macro.specs.Macros.{Macros, defined, undefined, marked, is_paste_kind, formal_or_plain, part_by, formal_number, parts_of, replaced, text_of, only_token, pasted, joined, with_part, with_parts, placed}
use Rattle.sv_macro.specs.Definitions.{barred, first_barred, unless_barred, of_body, one_longer, with_formal, formals_from, with_formals, formals_of, has_formals, with_list, behind_name, defining}
use Rattle.sv_macro.specs.declared.macros.Part.{Part}
use Rattle.sv_macro.specs.declared.macros.Part.TheVariants.{Plain, Formal, Join}
use Rattle.sv_macro.specs.declared.macros.Macro.{Macro}
use Rattle.sv_macro.specs.declared.definition.Formals.{Formals}
use Rattle.sv_macro.specs.declared.definition.Formals.TheVariants.{Listed, Departs, Ends}
use Rattle.sv_macro.specs.declared.definition.Defining.{Defining}
use Rattle.sv_macro.specs.declared.definition.Defining.TheVariants.{Defines, BreaksAt, BreaksList, IllFormed}
use Rattle.sv_macro.specs.declared.coming.Coming.{Coming}
use Rattle.sv_macro.specs.declared.coming.Coming.TheVariants.{Raw, Kept}
use Rattle.sv_macro.specs.declared.coming.Placing.{Placing}
use Rattle.sv_preproc.proofs.KeptItems.{Steady, ItemKeeps}

-- it holds of the tokens of a body
abbrev pub PartKeeps : (Token → Type 0) → Part → Type 0
PartKeeps K (Plain t) = K t
PartKeeps K (Formal i) = Unit {0}
PartKeeps K Join = Unit {0}

abbrev pub BodyKeeps : (Token → Type 0) → Macro → Type 0
BodyKeeps K m = All (PartKeeps K) m.parts

abbrev pub MacrosKeep : (Token → Type 0) → Macros → Type 0
MacrosKeep K macros = (name : List ℕ) → IfSome (macros name) (BodyKeeps K)

abbrev pub DefiningKeeps : (Token → Type 0) → Defining → Type 0
DefiningKeeps K (Defines name m) = BodyKeeps K m
DefiningKeeps K (BreaksAt rule t) = K t
DefiningKeeps K BreaksList = Unit {0}
DefiningKeeps K IllFormed = Unit {0}

abbrev pub FormalsKeep : (Token → Type 0) → Formals → Type 0
FormalsKeep K (Listed names taken) = Unit {0}
FormalsKeep K (Departs t) = K t
FormalsKeep K Ends = Unit {0}

-- what holds of a value that is made of another
mapped_keeps : {A B : Type 0} (P : A → Type 0) (Q : B → Type 0) (f : A → B) → ((x : A) → P x → Q (f x)) → (o : Option A) → IfSome o P → IfSome (option_map f o) Q
mapped_keeps P Q f g None p = tt
mapped_keeps P Q f g (Some x) p = g x p

then_keeps : {A B : Type 0} (P : A → Type 0) (Q : B → Type 0) (f : A → Option B) → ((x : A) → P x → IfSome (f x) Q) → (o : Option A) → IfSome o P → IfSome (option_and_then f o) Q
then_keeps P Q f g None p = tt
then_keeps P Q f g (Some x) p = g x p

module _ (K : Token → Type 0) where
  -- one macro among others
  by_name : (b : Bool) (m n : Option Macro) → IfSome m (BodyKeeps K) → IfSome n (BodyKeeps K) → IfSome (cond {A = Option Macro} b m n) (BodyKeeps K)
  by_name true m n p q = p
  by_name false m n p q = q

  pub defined_keeps : (macros : Macros) (name : List ℕ) (m : Macro) → MacrosKeep K macros → BodyKeeps K m → MacrosKeep K (defined macros name m)
  defined_keeps macros name m all body = λ q. by_name (bytes_eq name q) (Some m) (macros q) body (all q)

  pub undefined_keeps : (macros : Macros) (name : List ℕ) → MacrosKeep K macros → MacrosKeep K (undefined macros name)
  undefined_keeps macros name all = λ q. by_name (bytes_eq name q) None (macros q) tt (all q)

  marked_as_keeps : (macros : Macros) (name : List ℕ) (busy : Bool) (found : Option Macro) → MacrosKeep K macros → IfSome found (BodyKeeps K) →
      MacrosKeep K (elim found as (λ _. Macros) [ None ↦ macros | Some m ↦ defined macros name (record m { busy = busy }) ])
  marked_as_keeps macros name busy None all body = all
  marked_as_keeps macros name busy (Some m) all body = defined_keeps macros name (record m { busy = busy }) all body

  pub marked_keeps : (macros : Macros) (name : List ℕ) (busy : Bool) → MacrosKeep K macros → MacrosKeep K (marked macros name busy)
  marked_keeps macros name busy all = marked_as_keeps macros name busy (macros name) all (all name)

  -- the parts of a body
  formal_or_plain_keeps : (number : Option ℕ) (t : Token) → K t → PartKeeps K (formal_or_plain number t)
  formal_or_plain_keeps None t k = k
  formal_or_plain_keeps (Some i) t k = tt

  by_paste : (b : Bool) (part : Part) → PartKeeps K part → PartKeeps K (cond {A = Part} b Join part)
  by_paste true part k = tt
  by_paste false part k = k

  part_keeps : (number : List ℕ → Option ℕ) (t : Token) → K t → PartKeeps K (part_by number t)
  part_keeps number t k = by_paste (is_paste_kind t.kind) (formal_or_plain (number t.text) t) (formal_or_plain_keeps (number t.text) t k)

  pub parts_keep : (formals : List (List ℕ)) (body : List Token) → All K body → All (PartKeeps K) (parts_of formals body)
  parts_keep formals body all =
      All-map (PartKeeps K) (part_by (formal_number 0 formals)) body (All-weaker K (λ t. PartKeeps K (part_by (formal_number 0 formals) t)) (part_keeps (formal_number 0 formals)) body all)

  -- a definition
  by_rule : (rule : Option ℕ) (t : Token) (rest : Option Defining) → K t → IfSome rest (DefiningKeeps K) →
      IfSome (elim rule as (λ _. Option Defining) [ None ↦ rest | Some r ↦ Some (BreaksAt r t) ]) (DefiningKeeps K)
  by_rule None t rest kt k = k
  by_rule (Some r) t rest kt k = kt

  barred_keeps : (body : List Token) → All K body → IfSome (first_barred body) (DefiningKeeps K)
  barred_keeps [] all = tt
  barred_keeps (t ∷ ts) all = by_rule (barred t) t (first_barred ts) (All-head K t ts all) (barred_keeps ts (All-tail K t ts all))

  unless_keeps : (b : Option Defining) (d : Defining) → IfSome b (DefiningKeeps K) → DefiningKeeps K d → DefiningKeeps K (unless_barred b d)
  unless_keeps None d p q = q
  unless_keeps (Some b) d p q = p

  of_body_keeps : (name : List ℕ) (arity : Option ℕ) (formals : List (List ℕ)) (body : List Token) → All K body → DefiningKeeps K (of_body name arity formals body)
  of_body_keeps name arity formals body all = unless_keeps (first_barred body) _ (barred_keeps body all) (parts_keep formals body all)

  -- the list of formals
  one_longer_keeps : (formals : Formals) → FormalsKeep K formals → FormalsKeep K (one_longer formals)
  one_longer_keeps (Listed names taken) k = tt
  one_longer_keeps (Departs t) k = k
  one_longer_keeps Ends k = tt

  with_formal_keeps : (name : List ℕ) (formals : Formals) → FormalsKeep K formals → FormalsKeep K (with_formal name formals)
  with_formal_keeps name (Listed names taken) k = tt
  with_formal_keeps name (Departs t) k = k
  with_formal_keeps name Ends k = tt

  by_mark : (b : Bool) (x y : Formals) → FormalsKeep K x → FormalsKeep K y → FormalsKeep K (elim b as (λ _. Formals) [ true ↦ x | false ↦ y ])
  by_mark true x y p q = p
  by_mark false x y p q = q

  from_keeps : (wanted : Bool) (ts : List Token) → All K ts → FormalsKeep K (formals_from wanted ts)
  from_keeps true [] all = tt
  from_keeps false [] all = tt
  from_keeps true (t ∷ ts) all =
      by_mark (is_name t) _ (Departs t) (with_formal_keeps t.text (formals_from false ts) (from_keeps false ts (All-tail K t ts all))) (All-head K t ts all)
  from_keeps false (t ∷ ts) all =
      by_mark (is t (codes ",")) _ _ (one_longer_keeps (formals_from true ts) (from_keeps true ts (All-tail K t ts all)))
      (by_mark (is t (codes ")")) (Listed [] 1) (Departs t) tt (All-head K t ts all))

  formals_of_keeps : (ts : List Token) → All K ts → FormalsKeep K (formals_of ts)
  formals_of_keeps [] all = tt
  formals_of_keeps (t ∷ ts) all = by_mark (is t (codes ")")) (Listed [] 1) _ tt (from_keeps true (t ∷ ts) all)

  formals_keep : (name : List ℕ) (ts : List Token) (formals : Formals) → All K ts → FormalsKeep K formals → DefiningKeeps K (with_formals name ts formals)
  formals_keep name ts (Listed names taken) all k = of_body_keeps name _ names (drop taken ts) (All-drop K taken ts all)
  formals_keep name ts (Departs t) all k = k
  formals_keep name ts Ends all k = tt

  by_choice : (b : Bool) (x y : Defining) → DefiningKeeps K x → DefiningKeeps K y → DefiningKeeps K (cond {A = Defining} b x y)
  by_choice true x y p q = p
  by_choice false x y p q = q

  with_list_keeps : (name : Token) (ts : List Token) → All K ts → DefiningKeeps K (with_list name ts)
  with_list_keeps name [] all = tt
  with_list_keeps name (t ∷ ts) all =
      by_choice (is t (codes "(")) _ (BreaksAt 203 t) (formals_keep name.text ts (formals_of ts) (All-tail K t ts all) (formals_of_keeps ts (All-tail K t ts all))) (All-head K t ts all)

  behind_name_keeps : (name : Token) (ts : List Token) → All K ts → DefiningKeeps K (behind_name name ts)
  behind_name_keeps name ts all = by_choice (has_formals name ts) _ _ (with_list_keeps name ts all) (of_body_keeps name.text None [] ts all)

  pub defining_keeps : (line : List Token) → All K line → DefiningKeeps K (defining line)
  defining_keeps [] all = tt
  defining_keeps (name ∷ ts) all = by_choice (is_name name) _ _ (behind_name_keeps name ts (All-tail K name ts all)) tt

  -- what is placed for a part
  pub argument_keeps : (arguments : List (List Token)) (i : ℕ) → All (All K) arguments → All K (slice_index_or arguments i [])
  argument_keeps [] i all = All-nil K
  argument_keeps (a ∷ as') zero all = All-head (All K) a as' all
  argument_keeps (a ∷ as') (suc i) all = argument_keeps as' i (All-tail (All K) a as' all)

-- where moving to the place of the use gives tokens of which it holds
module _ (A K : Token → Type 0) (place : Place) (moves : (t : Token) → A t → K (moved place t)) (lexed : (text : List ℕ) → All A (tokens_of 0 text)) where
  replaced_keeps : (arguments : List (List Token)) (part : Part) → All (All A) arguments → PartKeeps A part → All (ItemKeeps K) (replaced place arguments part)
  replaced_keeps arguments (Plain t) all k = All-cons (ItemKeeps K) (Raw (moved place t)) [] (moves t k) (All-nil (ItemKeeps K))
  replaced_keeps arguments (Formal i) all k =
      All-map (ItemKeeps K) (λ t. Kept (moved place t)) (slice_index_or arguments i []) (All-weaker A (λ t. K (moved place t)) moves (slice_index_or arguments i []) (argument_keeps A arguments i all))
  replaced_keeps arguments Join all k = All-nil (ItemKeeps K)

  -- a paste
  only_keeps : (ts : List Token) → All A ts → IfSome (only_token place ts) (ItemKeeps K)
  only_keeps [] all = tt
  only_keeps (t ∷ []) all = moves t (All-head A t [] all)
  only_keeps (t ∷ u ∷ ts) all = tt

  pasted_keeps : (text : List ℕ) → IfSome (pasted place text) (ItemKeeps K)
  pasted_keeps text = only_keeps (tokens_of 0 text) (lexed text)

  joined_keeps : (xs ys : List Coming) → All (ItemKeeps K) xs → All (ItemKeeps K) ys → IfSome (joined place xs ys) (All (ItemKeeps K))
  joined_keeps xs [] all more = all
  joined_keeps [] (y ∷ ys) all more = more
  joined_keeps (x ∷ []) (y ∷ ys) all more =
      mapped_keeps (ItemKeeps K) (All (ItemKeeps K)) (λ t. t ∷ ys) (λ t k. All-cons (ItemKeeps K) t ys k (All-tail (ItemKeeps K) y ys more)) (pasted place (text_of x ++ text_of y)) (pasted_keeps (text_of x ++ text_of y))
  joined_keeps (x ∷ z ∷ zs) (y ∷ ys) all more =
      mapped_keeps (All (ItemKeeps K)) (All (ItemKeeps K)) (λ rest. x ∷ rest) (λ rest k. All-cons (ItemKeeps K) x rest (All-head (ItemKeeps K) x (z ∷ zs) all) k) (joined place (z ∷ zs) (y ∷ ys))
      (joined_keeps (z ∷ zs) (y ∷ ys) (All-tail (ItemKeeps K) x (z ∷ zs) all) more)

  -- a body that is placed in part
  record PlacingKeeps (p : Placing) : Type 0 where
    complete : All (ItemKeeps K) p.complete
    chain : All (ItemKeeps K) p.chain

  with_items_keep : (p : Placing) (items : List Coming) (pasting : Bool) → PlacingKeeps p → All (ItemKeeps K) items →
      IfSome (cond {A = Option Placing} pasting (option_map (λ chain. record { complete = p.complete; chain = chain; pasting = false }) (joined place p.chain items)) (Some (record { complete = p.complete ++ p.chain; chain = items; pasting = false }))) PlacingKeeps
  with_items_keep p items true k all =
      mapped_keeps (All (ItemKeeps K)) PlacingKeeps (λ chain. record { complete = p.complete; chain = chain; pasting = false }) (λ chain c. record { complete = k.complete; chain = c }) (joined place p.chain items) (joined_keeps p.chain items k.chain all)
  with_items_keep p items false k all = record { complete = All-append (ItemKeeps K) p.complete p.chain k.complete k.chain; chain = all }

  with_part_keeps : (arguments : List (List Token)) (p : Placing) (part : Part) → All (All A) arguments → PlacingKeeps p → PartKeeps A part → IfSome (with_part place arguments p part) PlacingKeeps
  with_part_keeps arguments p Join all k body = record { complete = k.complete; chain = k.chain }
  with_part_keeps arguments p (Plain t) all k body = with_items_keep p (replaced place arguments (Plain t)) p.pasting k (replaced_keeps arguments (Plain t) all body)
  with_part_keeps arguments p (Formal i) all k body = with_items_keep p (replaced place arguments (Formal i)) p.pasting k (replaced_keeps arguments (Formal i) all body)

  with_parts_keep : (arguments : List (List Token)) (parts : List Part) (p : Placing) → All (All A) arguments → PlacingKeeps p → All (PartKeeps A) parts → IfSome (with_parts place arguments parts p) PlacingKeeps
  with_parts_keep arguments [] p all k body = k
  with_parts_keep arguments (part ∷ parts) p all k body =
      then_keeps PlacingKeeps PlacingKeeps (with_parts place arguments parts) (λ q l. with_parts_keep arguments parts q all l (All-tail (PartKeeps A) part parts body)) (with_part place arguments p part)
      (with_part_keeps arguments p part all k (All-head (PartKeeps A) part parts body))

  pub placed_at_keeps : (arguments : List (List Token)) (parts : List Part) → All (All A) arguments → All (PartKeeps A) parts → IfSome (placed place arguments parts) (All (ItemKeeps K))
  placed_at_keeps arguments parts all body =
      mapped_keeps PlacingKeeps (All (ItemKeeps K)) (λ (p : Placing). p.complete ++ p.chain) (λ p k. All-append (ItemKeeps K) p.complete p.chain k.complete k.chain) (with_parts place arguments parts (record { complete = []; chain = []; pasting = false }))
      (with_parts_keep arguments parts (record { complete = []; chain = []; pasting = false }) all (record { complete = All-nil (ItemKeeps K); chain = All-nil (ItemKeeps K) }) body)

pub placed_keeps : (K : Token → Type 0) → Steady K → (place : Place) (arguments : List (List Token)) (parts : List Part) → All (All K) arguments → All (PartKeeps K) parts →
    IfSome (placed place arguments parts) (All (ItemKeeps K))
placed_keeps K steady place = placed_at_keeps K K place (steady.moves place) (steady.lexed 0)
