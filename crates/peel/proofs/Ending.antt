-- What the steps cost, and what their end says.
use Rattle.std.proofs.Common.{◌≡◌, ◌⊎◌, ℕ, zero, suc, ◌+◌, ◌-◌, ◌<◌, ◌≤◌, true, false, cond, List, [], ◌∷◌, ◌++◌, length, set, slice_index_or, refl, sym, ap, ◌∙◌, subst, inl, inr, arith, length-append, length-take-le}
use Rattle.std.proofs.lemmas.List.{get_or_default}
use Rattle.std.proofs.lemmas.Bool.{cases_eq}
use Rattle.row_machine.specs.Valuation.{Member}
use Rattle.row_machine.proofs.Members.{member-place, append-member, member-front, member-back}
use Rattle.row_machine.proofs.Basics.{member_at}
use Rattle.peel.specs.Peeled.{needed, Ascending, IsPeeled}
use Rattle.peel.specs.Steps.{mark_in, is_fresh, is_held, fresh_in, Met, NoneOpen, OpenAt, Going, held_too, finished, given_up, looked, last_of, work, StepsTo, AreHeld}
use Rattle.peel.specs.declared.peeling.Mark.{Mark}
use Rattle.peel.specs.declared.peeling.Mark.TheVariants.{Fresh, Held, Done}
use Rattle.peel.specs.declared.peeling.Peeling.{Peeling}
use Rattle.peel.proofs.Lists.{distinct-append, ascending-more, ascending-distinct}
use Rattle.peel.proofs.Going.{held≢done, going-held_too, going-finished, going-given_up, going-looked}

pub is_low : (marks : List Mark) (p : ℕ) → (mark_in marks p ≡ Fresh → ⊥) → p < length marks
is_low [] p met = absurd (met refl)
is_low (m ∷ marks) zero met = omega arith
is_low (m ∷ marks) (suc p) met = omega (arith, is_low marks p met)

-- a mark that isn't fresh any more is one fewer
pub fewer_fresh : (marks : List Mark) (p : ℕ) (m : Mark) → is_fresh m ≡ false → mark_in marks p ≡ Fresh → p < length marks → fresh_in (set marks p m) + 1 ≡ fresh_in marks
fewer_fresh [] p m e fresh low = absurd (omega arith)
fewer_fresh (x ∷ marks) zero m e fresh low = omega (arith, ap (λ b. cond {A = ℕ} b 1 0) e, ap (λ k. cond {A = ℕ} (is_fresh k) 1 0) fresh)
fewer_fresh (x ∷ marks) (suc p) m e fresh low = omega (arith, fewer_fresh marks p m e fresh (omega arith))

pub same_fresh : (marks : List Mark) (p : ℕ) (m : Mark) → is_fresh m ≡ false → is_fresh (mark_in marks p) ≡ false → fresh_in (set marks p m) ≡ fresh_in marks
same_fresh [] p m e old = refl
same_fresh (x ∷ marks) zero m e old = omega (arith, ap (λ b. cond {A = ℕ} b 1 0) e, ap (λ b. cond {A = ℕ} b 1 0) old)
same_fresh (x ∷ marks) (suc p) m e old = omega (arith, same_fresh marks p m e old)

pub held≢fresh : Held ≡ Fresh → ⊥
held≢fresh e = cc

pub done≢fresh : Done ≡ Fresh → ⊥
done≢fresh e = cc

pub work-held_too : (s : Peeling) (p : ℕ) → mark_in s.marks p ≡ Fresh → p < length s.marks → work (held_too s p) < work s
work-held_too s p fresh low = omega (arith, fewer_fresh s.marks p Held refl fresh low, length-append s.path (p ∷ []))

pub work-finished : (s : Peeling) (p : ℕ) → mark_in s.marks p ≡ Held → 0 < length s.path → work (finished s p) < work s
work-finished s p held some =
    omega (arith, same_fresh s.marks p Done refl (ap is_fresh held), length-take-le (length s.path - 1) s.path (omega arith))

pub work-given_up : (s : Peeling) → 0 < length s.path → work (given_up s) < work s
work-given_up s some = omega arith

-- what isn't fresh stays so
pub met-set : (marks : List Mark) (p q : ℕ) (m : Mark) → (m ≡ Fresh → ⊥) → (mark_in marks q ≡ Fresh → ⊥) → mark_in (set marks p m) q ≡ Fresh → ⊥
met-set [] p q m new old e = old e
met-set (x ∷ marks) zero zero m new old e = new e
met-set (x ∷ marks) zero (suc q) m new old e = old e
met-set (x ∷ marks) (suc p) zero m new old e = old e
met-set (x ∷ marks) (suc p) (suc q) m new old e = met-set marks p q m new old e

-- a mark that is neither
pub must_be_held : (m : Mark) → (m ≡ Done → ⊥) → is_fresh m ≡ false → m ≡ Held
must_be_held Fresh other fresh = cc
must_be_held Held other fresh = refl
must_be_held Done other fresh = absurd (other refl)

pub must_be_fresh : (m : Mark) → is_fresh m ≡ true → m ≡ Fresh
must_be_fresh Fresh e = refl
must_be_fresh Held e = cc
must_be_fresh Done e = cc

-- the three ways of a step at the end of the path
module _ (needs : List (List ℕ)) (s : Peeling) (g : Going needs s) (some : 0 < length s.path) (p : ℕ) (is_last : p ≡ last_of s.path) where
  pub last-held : mark_in s.marks p ≡ Held
  last-held = g.path_held p (subst (Member s.path) (sym is_last) (member_at s.path (length s.path - 1) 0 (omega arith)))

  pub last-low : p < length needs
  last-low = omega (arith, is_low s.marks p (λ f. held≢fresh (sym last-held ∙ f)), g.marked)

  -- it needs nothing that is open
  pub step-finished : NoneOpen s.marks (needed needs p) (length (needed needs p)) → StepsTo needs s (finished s p)
  step-finished none = record {
    going = going-finished needs s g p last-low some is_last ready;
    met = λ q met. met-set s.marks p q Done done≢fresh met;
    falls = work-finished s p last-held some;
  }
    where
      ready : (q : ℕ) → q < length needs → Member (needed needs p) q → mark_in s.marks q ≡ Done
      ready q low m =
          let k = member-place (needed needs p) q m in
          let is : slice_index_or (needed needs p) k.0 0 ≡ q = get_or_default (needed needs p) k.0 0 q k.1 ∙ k.2 in
          subst (λ x. mark_in s.marks x ≡ Done) is (none k.0 k.1 (subst (λ x. x < length s.marks) (sym is) (omega (arith, g.marked))))

  module _ (k q : ℕ) (below : k < length (needed needs p)) (is : q ≡ slice_index_or (needed needs p) k 0) where
    link : Member (needed needs p) q
    link = subst (Member (needed needs p)) (sym is) (member_at (needed needs p) k 0 below)

    -- it needs one that is fresh
    pub step-went_on : NoneOpen s.marks (needed needs p) k → q < length s.marks → mark_in s.marks q ≡ Fresh → StepsTo needs s (held_too (looked s p k) q)
    step-went_on none low fresh = record {
      going = going-held_too needs (looked s p k) (going-looked needs s g p last-low k (omega arith) none) q (omega (arith, g.marked)) fresh links;
      met = λ r met. met-set s.marks q r Held held≢fresh met;
      falls = work-held_too (looked s p k) q fresh low;
    }
      where
        links : (i : ℕ) → i + 1 ≡ length s.path → Member (needed needs (slice_index_or s.path i 0)) q
        links i e =
            let last : length s.path - 1 ≡ i = omega arith in
            subst (λ x. Member (needed needs x) q) (is_last ∙ ap (λ j. slice_index_or s.path j 0) last) link

    -- it needs one that is held
    pub step-gave_up : mark_in s.marks q ≡ Held → StepsTo needs s (given_up s)
    step-gave_up held = record {
      going = going-given_up needs s g q held (subst (λ x. Member (needed needs x) q) is_last link);
      met = λ p met. met;
      falls = work-given_up s some;
    }

  -- the same, said of what the code has read
  module _ (ms : List Mark) (xs : List ℕ) (k : ℕ) (t : Peeling) (is_marks : ms ≡ s.marks) (is_list : xs ≡ needed needs p) (none : NoneOpen ms xs k) where
    none_open : NoneOpen s.marks (needed needs p) k
    none_open = subst (λ ys. NoneOpen s.marks ys k) is_list (subst (λ ns. NoneOpen ns xs k) is_marks none)

    pub stepped-finished : k ≡ length xs → t ≡ finished s p → StepsTo needs s t
    stepped-finished end is =
        subst (StepsTo needs s) (sym is) (step-finished (subst (NoneOpen s.marks (needed needs p)) (end ∙ ap length is_list) none_open))

    module _ (below : k < length xs) (here : k < length xs → OpenAt ms xs k) (ns : List Mark) (m : Mark) (is_marks_still : ns ≡ s.marks) (is_mark : m ≡ mark_in ns (slice_index_or xs k 0)) where
      abbrev next : ℕ
      next = slice_index_or xs k 0

      low : k < length (needed needs p)
      low = subst (λ ys. k < length ys) is_list below

      is_next : next ≡ slice_index_or (needed needs p) k 0
      is_next = ap (λ ys. slice_index_or ys k 0) is_list

      mark_next : mark_in s.marks next ≡ m
      mark_next = ap (λ ms. mark_in ms next) (sym is_marks_still) ∙ sym is_mark

      pub stepped-on : is_fresh m ≡ true → t ≡ held_too (looked s p k) next → StepsTo needs s t
      stepped-on fresh is =
          subst (StepsTo needs s) (sym is)
          (step-went_on k next low is_next none_open (subst (λ ns. next < length ns) is_marks (here below).0) (mark_next ∙ must_be_fresh m fresh))

      pub stepped-back : is_fresh m ≡ false → t ≡ given_up s → StepsTo needs s t
      stepped-back fresh is = subst (StepsTo needs s) (sym is) (step-gave_up k next low is_next (mark_next ∙ must_be_held m other fresh))
        where
          other : m ≡ Done → ⊥
          other e = (here below).1 (ap (λ ns. mark_in ns next) is_marks ∙ mark_next ∙ e)

-- the numbers that are held among the first n
pub record Gathered (marks : List Mark) (left : List ℕ) (n : ℕ) : Type 0 where
  pub sound : (q : ℕ) → Member left q → (q < n) × (mark_in marks q ≡ Held)
  pub complete : (q : ℕ) → q < n → mark_in marks q ≡ Held → Member left q
  pub ascending : Ascending left

pub gathered-none : (marks : List Mark) → Gathered marks [] 0
gathered-none marks = record { sound = λ q m. absurd m; complete = λ q low e. absurd (omega arith); ascending = tt }

pub gathered-more : (marks : List Mark) (left : List ℕ) (n : ℕ) → Gathered marks left n → mark_in marks n ≡ Held → Gathered marks (left ++ n ∷ []) (n + 1)
gathered-more marks left n g held = record {
  sound = λ q m. elim (append-member left (n ∷ []) q m) [
    | inl l ↦ (omega (arith, (g.sound q l).0), (g.sound q l).1)
    | inr r ↦ elim r [
      | inl e ↦ (omega (arith, e), subst (λ k. mark_in marks k ≡ Held) (sym e) held)
      | inr none ↦ absurd none
    ]
  ];
  complete = λ q low e. elim (cases_eq q n) [
    | inl same ↦ member-back left (n ∷ []) q (inl same)
    | inr other ↦ member-front left (n ∷ []) q (g.complete q (omega (arith, other)) e)
  ];
  ascending = ascending-more left n g.ascending (λ k m. (g.sound k m).0);
}

pub gathered-same : (marks : List Mark) (left : List ℕ) (n : ℕ) → Gathered marks left n → (mark_in marks n ≡ Held → ⊥) → Gathered marks left (n + 1)
gathered-same marks left n g other = record {
  sound = λ q m. (omega (arith, (g.sound q m).0), (g.sound q m).1);
  complete = λ q low e. elim (cases_eq q n) [
    | inl same ↦ absurd (other (subst (λ k. mark_in marks k ≡ Held) same e))
    | inr differs ↦ g.complete q (omega (arith, differs)) e
  ];
  ascending = g.ascending;
}

pub gathered-all : (marks : List Mark) (left : List ℕ) (n : ℕ) → length marks ≤ n → Gathered marks left n → AreHeld marks left
gathered-all marks left n all g = record {
  sound = λ q m. (g.sound q m).1;
  complete = λ q e. g.complete q (omega (arith, is_low marks q (λ f. held≢fresh (sym e ∙ f)))) e;
  ascending = g.ascending;
}

pub held-true : (m : Mark) → is_held m ≡ true → m ≡ Held
held-true Fresh e = cc
held-true Held e = refl
held-true Done e = cc

pub held-false : (m : Mark) → is_held m ≡ false → m ≡ Held → ⊥
held-false m e h = cc

fresh-or-not : (m : Mark) → (m ≡ Fresh) ⊎ (m ≡ Held) ⊎ (m ≡ Done)
fresh-or-not Fresh = inl refl
fresh-or-not Held = inr (inl refl)
fresh-or-not Done = inr (inr refl)

-- where the path is empty and nothing is fresh
pub peeled_at_end : (needs : List (List ℕ)) (s : Peeling) (left : List ℕ) → Going needs s → s.path ≡ [] → ((p : ℕ) → p < length needs → Met s p) → AreHeld s.marks left → IsPeeled needs s.order left
peeled_at_end needs s left g ended met are = record {
  within = λ p m. elim (append-member s.order left p m) [
    | inl l ↦ low p (g.order_done p l)
    | inr r ↦ held_low p (are.sound p r)
  ];
  every = λ p h. elim (fresh-or-not (mark_in s.marks p)) [
    | inl fresh ↦ absurd (met p h fresh)
    | inr other ↦ elim other [
      | inl held ↦ member-back s.order left p (are.complete p held)
      | inr done ↦ member-front s.order left p (g.done_in_order p done)
    ]
  ];
  distinct = distinct-append s.order left g.order_distinct (ascending-distinct left are.ascending) (λ p a b. held≢done (mark_in s.marks p) (are.sound p b) (g.order_done p a));
  earlier = g.earlier;
  waiting = λ p m. elim (g.held p (are.sound p m)) [
    | inl on ↦ absurd (subst (λ xs. Member xs p) ended on)
    | inr r ↦ (r.0, r.1, are.complete r.0 r.2)
  ];
  ascending = are.ascending;
}
  where
    low : (p : ℕ) → mark_in s.marks p ≡ Done → p < length needs
    low p e = omega (arith, is_low s.marks p (λ f. not_both (mark_in s.marks p) f e), g.marked)
      where
        not_both : (m : Mark) → m ≡ Fresh → m ≡ Done → ⊥
        not_both m a b = cc

    held_low : (p : ℕ) → mark_in s.marks p ≡ Held → p < length needs
    held_low p e = omega (arith, is_low s.marks p (λ f. not_both (mark_in s.marks p) f e), g.marked)
      where
        not_both : (m : Mark) → m ≡ Fresh → m ≡ Held → ⊥
        not_both m a b = cc
