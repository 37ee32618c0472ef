-- The processes of a module's items: which item one is made of, and that no two of them write one signal.
use Rattle.std.proofs.Common.{◌≡◌, ◌⊎◌, ◌==◌, ℕ, Bool, true, false, List, [], ◌∷◌, ◌++◌, map, flat_map, slice_get, Option, Some, None, if◌then◌else◌, refl, sym, ap, subst, ◌∙◌, inl, inr}
use Rattle.std.specs.Option.{option_or}
use Rattle.std.specs.List.{list_all}
use Rattle.std.specs.Str.{bytes_eq}
use Rattle.std.proofs.lemmas.Bool.{or_cases, and_parts, false≢true, eqb-true}
use Rattle.row_machine.specs.Valuation.{Member}
use Rattle.sv_source.specs.declared.token.Spot.{Spot}
use Rattle.sv_source.specs.declared.refusal.Refusal.{Refusal}
use Rattle.sv_core.specs.declared.design.SignalKind.{SignalKind}
use Rattle.sv_core.specs.declared.design.SignalKind.TheVariants.{InputNet, OutputVar, Variable}
use Rattle.sv_core.specs.declared.design.Signal.{Signal}
use Rattle.sv_core.specs.declared.design.EdgeOn.{EdgeOn}
use Rattle.sv_core.specs.declared.design.Process.{Process}
use Rattle.sv_core.specs.Statements.{doing}
use Rattle.lower_design.specs.Translatable.{inside, targets_of, OneDriver, EdgeFits, KindFits, is_comb}
use Rattle.v_tree.specs.Names.{among, position}
use Rattle.sv2v_top.specs.declared.uses.Use.{Use}
use Rattle.sv2v_top.specs.declared.uses.Role.{Role}
use Rattle.sv2v_top.specs.declared.uses.Role.TheVariants.{Target, Read, Clock}
use Rattle.built_forms.specs.declared.forms.Item.{Item}
use Rattle.built_forms.specs.declared.forms.Item.TheVariants as I
use Rattle.sv2v_top.specs.source.Statements.{word_of, item_parts, if_target, targets_in, if_read, reads_in, targets, reads}
use Rattle.sv2v_top.specs.source.Rules.{all_among, is_bit, clock_is_bit, is_comb_item, target_words, always_written, write_break, writes_break, processes_break}
use Rattle.sv2v_top.specs.source.Elaboration.{expr_of, clock_of, process_of, processes_of}
use Rattle.sv2v_top.proofs.Names.{bytes_same, true_or_false, among-member, member-among, member-map, member-unmap, member-left, member-right, member-split, pick_true, pick_false}
use Rattle.sv2v_top.proofs.Parts.{numbers, assignment-matches, statement-matches}

pub all-member : {A : Type 0} (t : A → Bool) (xs : List A) (x : A) → list_all t xs ≡ true → Member xs x → t x ≡ true
all-member t [] x e m = elim m [ ]
all-member t (y ∷ ys) x e (inl s) = ap t s ∙ (and_parts _ _ e).0
all-member t (y ∷ ys) x e (inr m) = all-member t ys x (and_parts _ _ e).1 m

-- what is in a flattened list is in one of its parts
pub member-parts : {A B : Type 0} (f : A → List B) (xs : List A) (y : B) → Member (flat_map f xs) y → (x : A) × Member xs x × Member (f x) y
member-parts f [] y m = elim m [ ]
member-parts f (x ∷ xs) y m =
    elim (member-split (f x) (flat_map f xs) y m) [
      | inl k ↦ (x, inl refl, k)
      | inr k ↦ (let r = member-parts f xs y k in (r.0, inr r.1, r.2))
    ]

pub parts-member : {A B : Type 0} (f : A → List B) (xs : List A) (x : A) (y : B) → Member xs x → Member (f x) y → Member (flat_map f xs) y
parts-member f [] x y m k = elim m [ ]
parts-member f (z ∷ xs) x y (inl e) k = member-left (f z) (flat_map f xs) y (subst (λ w. Member (f w) y) e k)
parts-member f (z ∷ xs) x y (inr m) k = member-right (f z) (flat_map f xs) y (parts-member f xs x y m k)

-- a target or a read is a use
pub target-used : (us : List Use) (s : Spot) → Member (targets_in us) s → (u : Use) × Member us u × (s ≡ u.name)
target-used [] s m = elim m [ ]
target-used (u ∷ us) s m = by_role (λ k. (let r = target-used us s k in (r.0, inr r.1, r.2))) u.role m
  where
    by_role : (Member (targets_in us) s → (v : Use) × Member (u ∷ us) v × (s ≡ v.name)) → (r : Role) → Member (if_target r u.name (targets_in us)) s → (v : Use) × Member (u ∷ us) v × (s ≡ v.name)
    by_role more Target (inl e) = (u, inl refl, e)
    by_role more Target (inr k) = more k
    by_role more Read k = more k
    by_role more Clock k = more k

pub read-used : (us : List Use) (s : Spot) → Member (reads_in us) s → (u : Use) × Member us u × (s ≡ u.name)
read-used [] s m = elim m [ ]
read-used (u ∷ us) s m = by_role (λ k. (let r = read-used us s k in (r.0, inr r.1, r.2))) u.role m
  where
    by_role : (Member (reads_in us) s → (v : Use) × Member (u ∷ us) v × (s ≡ v.name)) → (r : Role) → Member (if_read r u.name (reads_in us)) s → (v : Use) × Member (u ∷ us) v × (s ≡ v.name)
    by_role more Read (inl e) = (u, inl refl, e)
    by_role more Read (inr k) = more k
    by_role more Target k = more k
    by_role more Clock k = more k

-- names among a list that have one position are one
pub position-there : (names : List (List ℕ)) (w : List ℕ) → among names w ≡ true → slice_get names (position names w) ≡ Some w
position-there [] w e = absurd (false≢true e)
position-there (v ∷ names) w e =
    elim (true_or_false (bytes_eq v w)) [
      | inl h ↦ ap (slice_get (v ∷ names)) (pick_true (bytes_eq v w) 0 _ h) ∙ ap Some (bytes_same v w h)
      | inr h ↦ ap (slice_get (v ∷ names)) (pick_false (bytes_eq v w) 0 _ h) ∙ position-there names w (rest (or_cases (bytes_eq v w) (among names w) e) h)
    ]
  where
    rest : (bytes_eq v w ≡ true) ⊎ (among names w ≡ true) → bytes_eq v w ≡ false → among names w ≡ true
    rest (inl k) h = absurd (false≢true (sym h ∙ k))
    rest (inr k) h = k

pub position-one : (names : List (List ℕ)) (v w : List ℕ) → among names v ≡ true → among names w ≡ true → position names v ≡ position names w → v ≡ w
position-one names v w a b e =
    let at_v = position-there names v a in
    let at_w = position-there names w b in
    some-same v w (sym at_v ∙ ap (slice_get names) e ∙ at_w)
  where
    some-same : (x y : List ℕ) → Some x ≡ Some y → x ≡ y
    some-same x y e = cc

-- a signal of one bit
pub bit-width : (k : SignalKind) (w : ℕ) → elim k [ InputNet ↦ w == 1 | OutputVar ↦ false | Variable ↦ false ] ≡ true → w ≡ 1
bit-width InputNet w e = eqb-true w 1 e
bit-width OutputVar w e = absurd (false≢true e)
bit-width Variable w e = absurd (false≢true e)

pub bit-signal : (o : Option Signal) → is_bit o ≡ true → (s : Signal) × (o ≡ Some s) × (s.width ≡ 1)
bit-signal None e = absurd (false≢true e)
bit-signal (Some s) e = (s, refl, bit-width s.kind s.width e)

module _ (signals : List Signal) (names : List (List ℕ)) where
  -- a process, beside the item that it is made of
  pub record MadeOf (i : Item) (p : Process) : Type 0 where
    pub read : (doing p.body).reads ≡ numbers names (reads i)
    pub written : targets_of p ≡ numbers names (targets i)
    pub exprs : (inside p.body).exprs ≡ map (expr_of names) (item_parts i).exprs
    pub depth : (inside p.body).depth ≡ (item_parts i).depth
    pub comb : is_comb p.kind ≡ is_comb_item i
    pub kind : clock_is_bit signals names i ≡ true → KindFits signals p.kind p.body

  clock-fits : (clock : Spot) → is_bit (slice_get signals (position names clock.word)) ≡ true → (e : EdgeOn) → Member (clock_of names clock.word) e → EdgeFits signals e
  clock-fits clock is e (inl same) = subst (EdgeFits signals) (sym same) (bit-signal _ is)
  clock-fits clock is e (inr m) = elim m [ ]

  pub made-of : (i : Item) (p : Process) → Member (process_of names i) p → MadeOf i p
  made-of (I.Assign a) p (inl e) =
      let m = assignment-matches names false a in
      subst (MadeOf (I.Assign a)) (sym e) (record {
        read = m.reads;
        written = m.targets;
        exprs = m.exprs;
        depth = m.depth;
        comb = refl;
        kind = λ is. (position names a.target.word, expr_of names a.value, refl);
      })
  made-of (I.Assign a) p (inr m) = elim m [ ]
  made-of (I.Logic d) p m = elim m [ ]
  made-of (I.Comb body) p (inl e) =
      let m = statement-matches names false body in
      subst (MadeOf (I.Comb body)) (sym e) (record {
        read = m.reads;
        written = m.targets;
        exprs = m.exprs;
        depth = m.depth;
        comb = refl;
        kind = λ is. m.later_targets;
      })
  made-of (I.Comb body) p (inr m) = elim m [ ]
  made-of (I.Edge clock body) p (inl e) =
      let m = statement-matches names true body in
      subst (MadeOf (I.Edge clock body)) (sym e) (record {
        read = m.reads;
        written = m.later_targets;
        exprs = m.exprs;
        depth = m.depth;
        comb = refl;
        kind = λ is. (m.targets, (λ none. cc), clock-fits clock is);
      })
  made-of (I.Edge clock body) p (inr m) = elim m [ ]

-- neither of two options has a value
pub option-none : {A : Type 0} (a b : Option A) → option_or a b ≡ None → (a ≡ None) × (b ≡ None)
option-none None b e = (refl, e)
option-none (Some x) b e = absurd (some-none e)
  where
    some-none : {A : Type 0} {x : A} → Some x ≡ None → ⊥
    some-none e = cc

-- a write that breaks nothing is of a name that isn't written yet
pub write-free : (is_written is_always : List ℕ → Bool) (s : Spot) → write_break is_written is_always s ≡ None → is_written s.word ≡ false
write-free is_written is_always s e = by_test (is_written s.word) _ _ e
  where
    by_test : (b : Bool) (x : Refusal) (o : Option Refusal) → (if b then Some x else o) ≡ None → b ≡ false
    by_test true x o e = cc
    by_test false x o e = refl

pub writes-free : (is_written is_always : List ℕ → Bool) (ss : List Spot) (s : Spot) → writes_break is_written is_always ss ≡ None → Member ss s → is_written s.word ≡ false
writes-free is_written is_always [] s e m = elim m [ ]
writes-free is_written is_always (t ∷ ss) s e (inl same) = ap (λ (x : Spot). is_written x.word) same ∙ write-free is_written is_always t (option-none _ _ e).0
writes-free is_written is_always (t ∷ ss) s e (inr m) = writes-free is_written is_always ss s (option-none _ _ e).1 m

pub among-left : (xs ys : List (List ℕ)) (w : List ℕ) → among xs w ≡ true → among (xs ++ ys) w ≡ true
among-left xs ys w e = among-member (xs ++ ys) w (member-left xs ys w (member-among xs w e))

-- what is written already is no target of later items
pub later-free : (written : List (List ℕ)) (items : List Item) → processes_break written items ≡ None → (w : List ℕ) → among written w ≡ true
    → (j : Item) → Member items j → (t : Spot) → Member (targets j) t → t.word ≡ w → ⊥
later-free written [] e w there j m t k same = elim m [ ]
later-free written (i ∷ items) e w there j (inl is) t k same =
    let free = writes-free (among written) (among (always_written i)) (targets i) t (option-none _ _ e).0 (subst (λ x. Member (targets x) t) is k) in
    false≢true (sym (ap (among written) (sym same) ∙ free) ∙ there)
later-free written (i ∷ items) e w there j (inr m) t k same =
    later-free (written ++ target_words i) items (option-none _ _ e).1 w (among-left written (target_words i) w there) j m t k same

pub driver-append : (ps qs : List Process) → OneDriver ps → OneDriver qs
    → ((p : Process) → Member ps p → (n : ℕ) → Member (targets_of p) n → (q : Process) → Member qs q → Member (targets_of q) n → ⊥) → OneDriver (ps ++ qs)
driver-append [] qs a b cross = b
driver-append (p ∷ ps) qs a b cross = (
  (λ n k q m l. elim (member-split ps qs q m) [ inl s ↦ a.0 n k q s l | inr s ↦ cross p (inl refl) n k q s l ]),
  driver-append ps qs a.1 b (λ x m. cross x (inr m)),
)

module _ (signals : List Signal) (names : List (List ℕ)) where
  -- the names of an item are there
  abbrev pub NamesThere : Item → Type 0
  NamesThere i = all_among names (item_parts i).names ≡ true

  pub target-there : (i : Item) → NamesThere i → (s : Spot) → Member (targets i) s → among names s.word ≡ true
  target-there i h s m =
      let u = target-used (item_parts i).names s m in
      ap (λ (x : Spot). among names x.word) u.2 ∙ all-member (λ (v : Use). among names v.name.word) (item_parts i).names u.0 h u.1

  pub read-there : (i : Item) → NamesThere i → (s : Spot) → Member (reads i) s → among names s.word ≡ true
  read-there i h s m =
      let u = read-used (item_parts i).names s m in
      ap (λ (x : Spot). among names x.word) u.2 ∙ all-member (λ (v : Use). among names v.name.word) (item_parts i).names u.0 h u.1

  -- the source of a process's target, and of what it reads
  pub target-source : (i : Item) (p : Process) → Member (process_of names i) p → (n : ℕ) → Member (targets_of p) n
      → (s : Spot) × Member (targets i) s × (n ≡ position names s.word)
  target-source i p m n k = member-unmap (λ (s : Spot). position names s.word) (targets i) n (subst (λ ns. Member ns n) (made-of signals names i p m).written k)

  pub read-source : (i : Item) (p : Process) → Member (process_of names i) p → (n : ℕ) → Member (doing p.body).reads n
      → (s : Spot) × Member (reads i) s × (n ≡ position names s.word)
  read-source i p m n k = member-unmap (λ (s : Spot). position names s.word) (reads i) n (subst (λ ns. Member ns n) (made-of signals names i p m).read k)

  item-driver : (i : Item) → OneDriver (process_of names i)
  item-driver (I.Assign a) = ((λ n k q m l. elim m [ ]), tt)
  item-driver (I.Logic d) = tt
  item-driver (I.Comb body) = ((λ n k q m l. elim m [ ]), tt)
  item-driver (I.Edge clock body) = ((λ n k q m l. elim m [ ]), tt)

  pub drivers : (written : List (List ℕ)) (items : List Item) → processes_break written items ≡ None → ((i : Item) → Member items i → NamesThere i) → OneDriver (processes_of names items)
  drivers written [] e there = tt
  drivers written (i ∷ items) e there =
      driver-append (process_of names i) (processes_of names items) (item-driver i)
      (drivers (written ++ target_words i) items (option-none _ _ e).1 (λ j m. there j (inr m)))
      (λ p m n k q l r.
      let s = target-source i p m n k in
      let j = member-parts (process_of names) items q l in
      let t = target-source j.0 q j.2 n r in
      let same = position-one names (t.0).word (s.0).word (target-there j.0 (there j.0 (inr j.1)) t.0 t.1) (target-there i (there i (inl refl)) s.0 s.1) (sym t.2 ∙ s.2) in
      let now : among (written ++ target_words i) (s.0).word ≡ true =
      among-member _ _ (member-right written (target_words i) (s.0).word (member-map word_of (targets i) s.0 s.1)) in
      later-free (written ++ target_words i) items (option-none _ _ e).1 (s.0).word now j.0 j.1 t.0 t.1 same)
