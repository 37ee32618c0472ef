-- A body that is placed has tokens alone.
use Rattle.std.proofs.Common.{Bool, true, false, cond, List, [], ◌∷◌, ◌++◌, map, slice_index_or, Option, Some, None, All}
use Rattle.std.specs.Option.{IfSome, option_map, option_and_then}
use Rattle.std.proofs.lemmas.List.Elements.{All-nil, All-cons, All-head, All-tail, All-append}
use Rattle.sv_source.specs.declared.token.Place.{Place}
use Rattle.sv_source.specs.declared.token.Token.{Token}
use Rattle.sv_lexer.specs.Lexing.{tokens_of}
use Rattle.sv_macro.specs.Tokens.{moved}
use Rattle.sv_macro.specs.Macros.{replaced, text_of, only_token, pasted, joined, with_part, with_parts, placed}
use Rattle.sv_macro.specs.declared.macros.Part.{Part}
use Rattle.sv_macro.specs.declared.macros.Part.TheVariants.{Plain, Formal, Join}
use Rattle.sv_macro.specs.declared.coming.Coming.{Coming}
use Rattle.sv_macro.specs.declared.coming.Coming.TheVariants.{Raw, Kept}
use Rattle.sv_macro.specs.declared.coming.Placing.{Placing}
use Rattle.sv_preproc.proofs.NestedLists.{IsToken}

mapped : {A B : Type 0} (P : A → Type 0) (Q : B → Type 0) (f : A → B) → ((x : A) → P x → Q (f x)) → (o : Option A) → IfSome o P → IfSome (option_map f o) Q
mapped P Q f g None p = tt
mapped P Q f g (Some x) p = g x p

then : {A B : Type 0} (P : A → Type 0) (Q : B → Type 0) (f : A → Option B) → ((x : A) → P x → IfSome (f x) Q) → (o : Option A) → IfSome o P → IfSome (option_and_then f o) Q
then P Q f g None p = tt
then P Q f g (Some x) p = g x p

abbrev Tokens : List Coming → Type 0
Tokens items = All IsToken items

module _ (place : Place) where
  kept : (ts : List Token) → Tokens (map (λ t. Kept (moved place t)) ts)
  kept [] = All-nil IsToken
  kept (t ∷ ts) = All-cons IsToken (Kept (moved place t)) (map (λ u. Kept (moved place u)) ts) tt (kept ts)

  replaced_tokens : (arguments : List (List Token)) (part : Part) → Tokens (replaced place arguments part)
  replaced_tokens arguments (Plain t) = All-cons IsToken (Raw (moved place t)) [] tt (All-nil IsToken)
  replaced_tokens arguments (Formal i) = kept (slice_index_or arguments i [])
  replaced_tokens arguments Join = All-nil IsToken

  only : (ts : List Token) → IfSome (only_token place ts) IsToken
  only [] = tt
  only (t ∷ []) = tt
  only (t ∷ u ∷ ts) = tt

  joined_tokens : (xs ys : List Coming) → Tokens xs → Tokens ys → IfSome (joined place xs ys) Tokens
  joined_tokens xs [] all more = all
  joined_tokens [] (y ∷ ys) all more = more
  joined_tokens (x ∷ []) (y ∷ ys) all more =
      mapped IsToken Tokens (λ t. t ∷ ys) (λ t k. All-cons IsToken t ys k (All-tail IsToken y ys more)) (pasted place (text_of x ++ text_of y)) (only (tokens_of 0 (text_of x ++ text_of y)))
  joined_tokens (x ∷ z ∷ zs) (y ∷ ys) all more =
      mapped Tokens Tokens (λ rest. x ∷ rest) (λ rest k. All-cons IsToken x rest (All-head IsToken x (z ∷ zs) all) k) (joined place (z ∷ zs) (y ∷ ys)) (joined_tokens (z ∷ zs) (y ∷ ys) (All-tail IsToken x (z ∷ zs) all) more)

  -- a body that is placed in part
  record PlacingTokens (p : Placing) : Type 0 where
    complete : Tokens p.complete
    chain : Tokens p.chain

  with_items : (p : Placing) (items : List Coming) (pasting : Bool) → PlacingTokens p → Tokens items →
      IfSome (cond {A = Option Placing} pasting (option_map (λ chain. record { complete = p.complete; chain = chain; pasting = false }) (joined place p.chain items)) (Some (record { complete = p.complete ++ p.chain; chain = items; pasting = false }))) PlacingTokens
  with_items p items true k all =
      mapped Tokens PlacingTokens (λ chain. record { complete = p.complete; chain = chain; pasting = false }) (λ chain c. record { complete = k.complete; chain = c }) (joined place p.chain items) (joined_tokens p.chain items k.chain all)
  with_items p items false k all = record { complete = All-append IsToken p.complete p.chain k.complete k.chain; chain = all }

  with_part_tokens : (arguments : List (List Token)) (p : Placing) (part : Part) → PlacingTokens p → IfSome (with_part place arguments p part) PlacingTokens
  with_part_tokens arguments p Join k = record { complete = k.complete; chain = k.chain }
  with_part_tokens arguments p (Plain t) k = with_items p (replaced place arguments (Plain t)) p.pasting k (replaced_tokens arguments (Plain t))
  with_part_tokens arguments p (Formal i) k = with_items p (replaced place arguments (Formal i)) p.pasting k (replaced_tokens arguments (Formal i))

  with_parts_tokens : (arguments : List (List Token)) (parts : List Part) (p : Placing) → PlacingTokens p → IfSome (with_parts place arguments parts p) PlacingTokens
  with_parts_tokens arguments [] p k = k
  with_parts_tokens arguments (part ∷ parts) p k =
      then PlacingTokens PlacingTokens (with_parts place arguments parts) (λ q l. with_parts_tokens arguments parts q l) (with_part place arguments p part) (with_part_tokens arguments p part k)

  pub placed_tokens : (arguments : List (List Token)) (parts : List Part) → IfSome (placed place arguments parts) Tokens
  placed_tokens arguments parts =
      mapped PlacingTokens Tokens (λ (p : Placing). p.complete ++ p.chain) (λ p k. All-append IsToken p.complete p.chain k.complete k.chain) (with_parts place arguments parts (record { complete = []; chain = []; pasting = false }))
      (with_parts_tokens arguments parts (record { complete = []; chain = []; pasting = false }) (record { complete = All-nil IsToken; chain = All-nil IsToken }))
