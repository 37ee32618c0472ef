-- The links that are found, and the followers that they make.
use Rattle.std.proofs.Common.{◌≡◌, ◌⊎◌, inl, inr, ℕ, zero, suc, ◌+◌, ◌<◌, ◌≤◌, List, [], ◌∷◌, ◌++◌, length, drop, replicate, slice_index_or, slice_set, Option, Some, None, refl, ap, sym, ◌∙◌, subst, arith}
use Rattle.std.specs.Prelude.{slice_get}
use Rattle.std.proofs.Math.Seq.{drop-cons}
use Rattle.std.proofs.Math.Numerals.{add-one}
use Rattle.std.proofs.lemmas.List.{drop_all}
use Rattle.std.proofs.lemmas.Bool.{cases_eq}
use Rattle.row_machine.specs.Valuation.{Member}
use Rattle.row_machine.proofs.Members.{append-member, member-front, member-back}
use Rattle.sv_types.specs.declared.design.Process.{Process}
use Rattle.flow_sets.specs.declared.found.Found.{Found}
use Rattle.reach_marks.specs.Reach.{list_at}
use Rattle.edge_breaks.specs.declared.links.Link.{Link}
use Rattle.edge_breaks.specs.Links.{link_of, with_maybe, all_links}

-- one step of the loop over processes
pub links-step : (next : List (List ℕ)) (ps : List Process) (fs : List (Option Found)) (k : ℕ) (p : Process) (f : Option Found) → k < length ps → length fs ≡ length ps
    → p ≡ slice_index_or ps k p → f ≡ slice_index_or fs k f → all_links (with_maybe next (link_of p f)) (drop (k + 1) ps) (drop (k + 1) fs) ≡ all_links next (drop k ps) (drop k fs)
links-step next ps fs k p f within long is it =
    let of_ps : drop k ps ≡ p ∷ drop (suc k) ps = drop-cons ps k p within ∙ ap (λ (q : Process). q ∷ drop (suc k) ps) (sym is) in
    let of_fs : drop k fs ≡ f ∷ drop (suc k) fs = drop-cons fs k f (omega (arith, within, long)) ∙ ap (λ (q : Option Found). q ∷ drop (suc k) fs) (sym it) in
    ap (λ n. all_links (with_maybe next (link_of p f)) (drop n ps) (drop n fs)) (add-one k) ∙ sym (λ i. all_links next (of_ps i) (of_fs i))

pub links-end : (next : List (List ℕ)) (ps : List Process) (fs : List (Option Found)) (k : ℕ) → length ps ≤ k → all_links next (drop k ps) (drop k fs) ≡ next
links-end next ps fs k past = ap (λ qs. all_links next qs (drop k fs)) (drop_all k ps past)

-- a list in the place of another one
abbrev set_list : List (List ℕ) → ℕ → List ℕ → List (List ℕ)
set_list next k ns = slice_set next k ns

list-set : (next : List (List ℕ)) (k : ℕ) (ns : List ℕ) → k < length next → list_at (set_list next k ns) k ≡ ns
list-set [] k ns low = absurd (omega arith)
list-set (x ∷ next) zero ns low = refl
list-set (x ∷ next) (suc k) ns low = list-set next k ns (omega (arith, low))

list-other : (next : List (List ℕ)) (k m : ℕ) (ns : List ℕ) → (m ≡ k → ⊥) → list_at (set_list next k ns) m ≡ list_at next m
list-other [] k m ns other = refl
list-other (x ∷ next) zero zero ns other = absurd (other refl)
list-other (x ∷ next) zero (suc m) ns other = refl
list-other (x ∷ next) (suc k) zero ns other = refl
list-other (x ∷ next) (suc k) (suc m) ns other = list-other next k m ns (λ e. other (ap suc e))

length-set : (next : List (List ℕ)) (k : ℕ) (ns : List ℕ) → length (set_list next k ns) ≡ length next
length-set [] k ns = refl
length-set (x ∷ next) zero ns = refl
length-set (x ∷ next) (suc k) ns = ap suc (length-set next k ns)

length-maybe : (next : List (List ℕ)) (o : Option Link) → length (with_maybe next o) ≡ length next
length-maybe next None = refl
length-maybe next (Some l) = length-set next l.from (list_at next l.from ++ l.to ∷ [])

pub length-links : (next : List (List ℕ)) (ps : List Process) (fs : List (Option Found)) → length (all_links next ps fs) ≡ length next
length-links next [] fs = refl
length-links next (p ∷ ps) [] = refl
length-links next (p ∷ ps) (f ∷ fs) = length-links (with_maybe next (link_of p f)) ps fs ∙ length-maybe next (link_of p f)

pub none-follow : (count m : ℕ) → list_at (replicate count []) m ≡ []
none-follow zero m = refl
none-follow (suc count) zero = refl
none-follow (suc count) (suc m) = none-follow count m

pub length-none : (count : ℕ) → length (replicate {A = List ℕ} count []) ≡ count
length-none zero = refl
length-none (suc count) = ap suc (length-none count)

-- a process that makes a link
pub record LinkIn (ps : List Process) (fs : List (Option Found)) (l : Link) : Type 0 where
  pub at : ℕ
  pub process : Process
  pub found : Option Found
  pub stands : slice_get ps at ≡ Some process
  pub finds : slice_get fs at ≡ Some found
  pub is : link_of process found ≡ Some l

later : (p : Process) (ps : List Process) (f : Option Found) (fs : List (Option Found)) (l : Link) → LinkIn ps fs l → LinkIn (p ∷ ps) (f ∷ fs) l
later p ps f fs l h = record { at = suc h.at; process = h.process; found = h.found; stands = h.stands; finds = h.finds; is = h.is }

-- the link that adds a follower
maybe-into : (next : List (List ℕ)) (o : Option Link) (m n : ℕ) → m < length next → Member (list_at (with_maybe next o) m) n → Member (list_at next m) n ⊎ (o ≡ Some (record { from = m; to = n }))
maybe-into next None m n low h = inl h
maybe-into next (Some l) m n low h = elim (cases_eq m l.from) [
  | inl is ↦
      (let added = list_at next l.from ++ l.to ∷ [] in
      let here : Member added n = subst (λ xs. Member xs n) (list-set next l.from added (omega (arith, low, is))) (subst (λ k. Member (list_at (set_list next l.from added) k) n) is h) in
      elim (append-member (list_at next l.from) (l.to ∷ []) n here) [
        | inl old ↦ inl (subst (λ k. Member (list_at next k) n) (sym is) old)
        | inr new ↦ elim new [ inl same ↦ inr (λ i. Some (record { from = sym is i; to = sym same i })) | inr none ↦ elim none [ ] ]
      ])
  | inr other ↦ inl (subst (λ xs. Member xs n) (list-other next l.from m (list_at next l.from ++ l.to ∷ []) other) h)
]

maybe-keeps : (next : List (List ℕ)) (o : Option Link) (m n : ℕ) → m < length next → Member (list_at next m) n → Member (list_at (with_maybe next o) m) n
maybe-keeps next None m n low h = h
maybe-keeps next (Some l) m n low h = elim (cases_eq m l.from) [
  | inl is ↦
      (let added = list_at next l.from ++ l.to ∷ [] in
      subst (λ k. Member (list_at (set_list next l.from added) k) n) (sym is)
      (subst (λ xs. Member xs n) (sym (list-set next l.from added (omega (arith, low, is)))) (member-front (list_at next l.from) (l.to ∷ []) n (subst (λ k. Member (list_at next k) n) is h))))
  | inr other ↦ subst (λ xs. Member xs n) (sym (list-other next l.from m (list_at next l.from ++ l.to ∷ []) other)) h
]

maybe-adds : (next : List (List ℕ)) (o : Option Link) (l : Link) → l.from < length next → o ≡ Some l → Member (list_at (with_maybe next o) l.from) l.to
maybe-adds next o l low is =
    let added = list_at next l.from ++ l.to ∷ [] in
    subst (λ (x : Option Link). Member (list_at (with_maybe next x) l.from) l.to) (sym is)
    (subst (λ xs. Member xs l.to) (sym (list-set next l.from added low)) (member-back (list_at next l.from) (l.to ∷ []) l.to (inl refl)))

pub links-into : (next : List (List ℕ)) (ps : List Process) (fs : List (Option Found)) (m n : ℕ) → m < length next → Member (list_at (all_links next ps fs) m) n
    → Member (list_at next m) n ⊎ LinkIn ps fs (record { from = m; to = n })
links-into next [] fs m n low h = inl h
links-into next (p ∷ ps) [] m n low h = inl h
links-into next (p ∷ ps) (f ∷ fs) m n low h =
    let long = length-maybe next (link_of p f) in
    elim (links-into (with_maybe next (link_of p f)) ps fs m n (omega (arith, low, long)) h) [
      | inl before ↦ elim (maybe-into next (link_of p f) m n low before) [
        | inl old ↦ inl old
        | inr is ↦ inr (record { at = 0; process = p; found = f; stands = refl; finds = refl; is = is })
      ]
      | inr more ↦ inr (later p ps f fs (record { from = m; to = n }) more)
    ]

links-keep : (next : List (List ℕ)) (ps : List Process) (fs : List (Option Found)) (m n : ℕ) → m < length next → Member (list_at next m) n → Member (list_at (all_links next ps fs) m) n
links-keep next [] fs m n low h = h
links-keep next (p ∷ ps) [] m n low h = h
links-keep next (p ∷ ps) (f ∷ fs) m n low h =
    let long = length-maybe next (link_of p f) in
    links-keep (with_maybe next (link_of p f)) ps fs m n (omega (arith, low, long)) (maybe-keeps next (link_of p f) m n low h)

pub links-add : (next : List (List ℕ)) (ps : List Process) (fs : List (Option Found)) (l : Link) (k : ℕ) (p : Process) (f : Option Found) → l.from < length next
    → slice_get ps k ≡ Some p → slice_get fs k ≡ Some f → link_of p f ≡ Some l → Member (list_at (all_links next ps fs) l.from) l.to
links-add next [] fs l k p f low stands finds is = cc
links-add next (q ∷ ps) [] l k p f low stands finds is = cc
links-add next (q ∷ ps) (g ∷ fs) l zero p f low stands finds is =
    let same : q ≡ p = cc in
    let its : g ≡ f = cc in
    let long = length-maybe next (link_of q g) in
    links-keep (with_maybe next (link_of q g)) ps fs l.from l.to (omega (arith, low, long)) (maybe-adds next (link_of q g) l low ((λ i. link_of (same i) (its i)) ∙ is))
links-add next (q ∷ ps) (g ∷ fs) l (suc k) p f low stands finds is =
    let long = length-maybe next (link_of q g) in
    links-add (with_maybe next (link_of q g)) ps fs l k p f (omega (arith, low, long)) stands finds is
