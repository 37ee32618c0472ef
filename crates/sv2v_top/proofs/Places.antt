-- A refusal of tokens stands where a token does, at their end, or at the head of the first file.
use Rattle.std.proofs.Common.{◌≡◌, ◌⊎◌, ℕ, ◌<◌, ◌≤◌, Bool, true, false, cond, List, [], ◌∷◌, ◌++◌, map, slice_get, Option, Some, None, if◌then◌else◌, refl, sym, subst, inl, inr, arith}
use Rattle.std.specs.List.{All, AllByRecursion, find}
use Rattle.std.specs.Option.{IfSome, option_or, option_map}
use Rattle.sv_source.specs.declared.token.Place.{Place}
use Rattle.sv_source.specs.declared.token.Token.{Token}
use Rattle.sv_source.specs.declared.token.Spot.{Spot}
use Rattle.sv_source.specs.declared.refusal.Refusal.{Refusal}
use Rattle.built_forms.specs.declared.forms.Item.{Item}
use Rattle.built_forms.specs.declared.forms.Module.{Module}
use Rattle.sv2v_top.specs.declared.uses.Use.{Use}
use Rattle.sv2v_top.specs.declared.uses.Role.{Role}
use Rattle.sv2v_top.specs.declared.uses.Role.TheVariants.{Target, Read, Clock}
use Rattle.v_tree.specs.Names.{among}
use Rattle.sv2v_top.specs.source.Statements.{if_target, targets_in, targets, item_parts}
use Rattle.sv2v_top.specs.source.Names.{undeclared, undeclared_in, first_undeclared, name_of, declared_by, port_names}
use Rattle.sv2v_top.specs.source.Rules.{refused_at, write_break, writes_break, always_written, target_words, processes_break, first_process_break, is_top, elaborates, is_built}
use Rattle.package_scope.specs.Answers.{names_refusal, place_in, refusal_of as name_refusal}
use Rattle.package_scope.specs.declared.breaks.Break.{Break}
use Rattle.package_scope.specs.Rules.{names_break}
use Rattle.sv2v_top.specs.source.Answers.{stage_refusal, unless_built, refusal_if_elaborates, refusal_if_top, refusal_or, refusal_of, refusal_by, tree_refusal}
use Rattle.sv_tree.specs.declared.units.SourceTree.{SourceTree}
use Rattle.sv_tree.specs.declared.units.Unit as U
use Rattle.sv_build.specs.Attributes.{without_attributes}
use Rattle.sv_build.specs.Reading.{Reads, SyntaxBreak, fails, nests, fails_at, nests_at, at_token}
use Rattle.built_forms.specs.Built.{spot_with, one_module, gathered, unit_of, built}
use Rattle.sv2v_top.specs.Translation.{Breaks}
use Rattle.sv2v_top.proofs.Readable.{Within, GoodItem, GoodModule, readable}
use Rattle.sv2v_top.proofs.Kept.{all-left, all-at}

-- the first one that is there
pub of-either : {A : Type 0} (P : A → Type 0) (o u : Option A) → IfSome o P → IfSome u P → IfSome (option_or o u) P
of-either P None u h k = k
of-either P (Some x) u h k = h

-- the first one that passes
pub of-found : {A : Type 0} (P : A → Type 0) (test : A → Bool) (xs : List A) → AllByRecursion P xs → IfSome (find test xs) P
of-found P test [] h = tt
of-found P test (x ∷ xs) h = by_test (test x) (of-found P test xs h.1)
  where
    by_test : (b : Bool) → IfSome (find test xs) P → IfSome (cond b (Some x) (find test xs)) P
    by_test true more = h.0
    by_test false more = more

-- the value that is there
pub of-some : {A : Type 0} (P : A → Type 0) (o : Option A) (x : A) → o ≡ Some x → IfSome o P → P x
of-some P o x e h = subst (λ u. IfSome u P) e h

-- a property of places
module _ (K : Place → Type 0) where
  abbrev AtRefusal : Refusal → Type 0
  AtRefusal r = K r.place

  abbrev AtToken : Token → Type 0
  AtToken t = K t.place

  abbrev AtSpot : Spot → Type 0
  AtSpot s = K s.place

  abbrev AtUse : Use → Type 0
  AtUse u = K u.name.place

  -- it holds at each name that an item uses
  abbrev AtItem : Item → Type 0
  AtItem i = AllByRecursion AtUse (item_parts i).names

  at-items : (items : List Item) → AllByRecursion (GoodItem AtSpot) items → AllByRecursion AtItem items
  at-items [] h = tt
  at-items (i ∷ items) h = (h.0.good.names, at-items items h.1)

  at-undeclared : (own : List ℕ) (names : List (List ℕ)) (items : List Item) → AllByRecursion AtItem items → IfSome (undeclared_in own names items) AtUse
  at-undeclared own names [] h = tt
  at-undeclared own names (i ∷ items) h =
      of-either AtUse (undeclared own names (item_parts i).names) _ (of-found AtUse _ (item_parts i).names h.0) (at-undeclared own (names ++ map name_of (declared_by i)) items h.1)

  at-targets : (us : List Use) → AllByRecursion AtUse us → AllByRecursion AtSpot (targets_in us)
  at-targets [] h = tt
  at-targets (u ∷ us) h = by_role u.role (at-targets us h.1)
    where
      by_role : (r : Role) → AllByRecursion AtSpot (targets_in us) → AllByRecursion AtSpot (if_target r u.name (targets_in us))
      by_role Target more = (h.0, more)
      by_role Read more = more
      by_role Clock more = more

  at-write : (written always : Bool) (s : Spot) → AtSpot s
      → IfSome (if written then Some (refused_at 601 s) else (if always then None else Some (refused_at 603 s))) AtRefusal
  at-write true always s h = h
  at-write false true s h = tt
  at-write false false s h = h

  at-writes : (is_written is_always : List ℕ → Bool) (ss : List Spot) → AllByRecursion AtSpot ss → IfSome (writes_break is_written is_always ss) AtRefusal
  at-writes is_written is_always [] h = tt
  at-writes is_written is_always (s ∷ ss) h =
      of-either AtRefusal (write_break is_written is_always s) _ (at-write (is_written s.word) (is_always s.word) s h.0) (at-writes is_written is_always ss h.1)

  at-processes : (written : List (List ℕ)) (items : List Item) → AllByRecursion AtItem items → IfSome (processes_break written items) AtRefusal
  at-processes written [] h = tt
  at-processes written (i ∷ items) h =
      of-either AtRefusal (writes_break (among written) (among (always_written i)) (targets i)) _
      (at-writes (among written) (among (always_written i)) (targets i) (at-targets (item_parts i).names h.0)) (at-processes (written ++ target_words i) items h.1)

  module _ (head : AtRefusal stage_refusal) where
    at-stage : (elaborated : Bool) (process_break : Option Refusal) (built : Bool) → IfSome process_break AtRefusal
        → IfSome (refusal_if_elaborates elaborated process_break built) AtRefusal
    at-stage false process_break built h = head
    at-stage true process_break built h = of-either AtRefusal process_break (unless_built built) h (by_built built)
      where
        by_built : (b : Bool) → IfSome (unless_built b) AtRefusal
        by_built true = tt
        by_built false = head

    at-top : (b : Bool) (top : List ℕ) (o : Option Refusal) → IfSome o AtRefusal → IfSome (refusal_if_top b top o) AtRefusal
    at-top true top o h = h
    at-top false top o h = head

    at-rules : (u : Option Use) (o : Option Refusal) → IfSome u AtUse → IfSome o AtRefusal → IfSome (refusal_or u o) AtRefusal
    at-rules (Some u) o h k = h
    at-rules None o h k = k

    at-refusal : (m : Module) (top : List ℕ) → AllByRecursion AtItem m.items → IfSome (refusal_of m top) AtRefusal
    at-refusal m top h =
        at-rules (first_undeclared m) _ (at-undeclared m.name.word (port_names m) m.items h)
        (at-top (is_top m top) top _ (at-stage (elaborates m) (first_process_break m) (is_built m) (at-processes [] m.items h)))

    at-built : (o : Option (Option Module)) (top : List ℕ) → IfSome o (Within (GoodModule AtSpot)) → IfSome (refusal_by o top) AtRefusal
    at-built None top h = head
    at-built (Some None) top h = head
    at-built (Some (Some m)) top h = at-refusal m top (at-items m.items h.items)

    module _ (tokens : List Token) (a : All AtToken tokens) where
      left : All AtToken (without_attributes tokens)
      left = all-left AtToken tokens a

      kept : (tree : SourceTree) → Reads tokens tree → (i : ℕ) (t : Token) → slice_get tree.tokens i ≡ Some t → AtToken t
      kept tree x i t at = all-at AtToken tree.tokens i t (subst (All AtToken) (sym x.keeps) left) at

      -- the break of a name stands at a token
      at-place : (o : Option Token) → ((t : Token) → o ≡ Some t → AtToken t) → K (place_in o)
      at-place None h = head
      at-place (Some t) h = h t refl

      at-name : (tree : SourceTree) → Reads tokens tree → (o : Option Break) → IfSome (option_map (name_refusal tree.tokens) o) AtRefusal
      at-name tree x None = tt
      at-name tree x (Some b) = at-place (slice_get tree.tokens b.at) (kept tree x b.at)

      at-tree : (tree : SourceTree) (top : List ℕ) → Reads tokens tree → IfSome (tree_refusal tree top) AtRefusal
      at-tree tree top x =
          of-either AtRefusal (names_refusal tree) _ (at-name tree x (names_break tree))
          (at-built (built tree) top
          (readable AtSpot tree.tokens (λ i t at named. kept tree x i t at) tree.units))

      at-one : (f : Token → Refusal) → ((t : Token) → (f t).place ≡ t.place) → (o : Option Token) → ((t : Token) → o ≡ Some t → AtToken t) → IfSome (at_token f o) AtRefusal
      at-one f same None h = tt
      at-one f same (Some t) h = subst K (sym (same t)) (h t refl)

      there : (i : ℕ) (t : Token) → slice_get (without_attributes tokens) i ≡ Some t → AtToken t
      there i t e = all-at AtToken (without_attributes tokens) i t left e

      at-syntax : (r : Refusal) → SyntaxBreak tokens r → AtRefusal r
      at-syntax r (fails i f e) = of-some AtRefusal _ r e (at-one fails_at (λ t. refl) (slice_get (without_attributes tokens) i) (there i))
      at-syntax r (nests i p e) = of-some AtRefusal _ r e (at-one nests_at (λ t. refl) (slice_get (without_attributes tokens) i) (there i))

      -- it holds where the tokens break a rule
      pub at-break : (top : List ℕ) (r : Refusal) → Breaks top tokens r → AtRefusal r
      at-break top r b = by_cause b.cause
        where
          by_cause : SyntaxBreak tokens r ⊎ ((tree : SourceTree) × Reads tokens tree × (tree_refusal tree top ≡ Some r)) → AtRefusal r
          by_cause (inl s) = at-syntax r s
          by_cause (inr n) = of-some AtRefusal (tree_refusal n.0 top) r n.2 (at-tree n.0 top n.1)

-- tokens of so many files, one at least, break a rule in one of these
pub break-placed : (n : ℕ) (top : List ℕ) (tokens : List Token) (r : Refusal) → 1 ≤ n → All (λ (t : Token). t.place.file < n) tokens
    → Breaks top tokens r → r.place.file < n
break-placed n top tokens r some all b = at-break (λ (p : Place). p.file < n) (omega arith) tokens all top r b
