-- Unfit edges, as the definition lists them.
use Rattle.std.proofs.Common.{◌≡◌, inl, inr, ℕ, Bool, true, false, ◌&&◌, ◌==◌, not, cond, List, [], ◌∷◌, length, map, filter, Option, Some, None, refl, ap, sym, ◌∙◌, subst}
use Rattle.std.specs.Prelude.{slice_index_or}
use Rattle.std.proofs.lemmas.Bool.{cases_lt}
use Rattle.std.proofs.lemmas.Option.{slice_get_past}
use Rattle.row_machine.specs.Valuation.{Member}
use Rattle.sv_types.specs.declared.design.Design.{Design}
use Rattle.sv_types.specs.declared.design.EdgeOn.{EdgeOn}
use Rattle.sv_types.specs.declared.design.Process.{Process}
use Rattle.sv_types.specs.declared.design.ProcessKind.{ProcessKind}
use Rattle.sv_types.specs.declared.design.ProcessKind.TheVariants as K
use Rattle.sv_types.specs.declared.design.Signal.{Signal}
use Rattle.sv_types.specs.Layouts.{width_of}
use Rattle.design_breaks.specs.Breaks as B
use Rattle.least_breaks.specs.Least.{with_token, least_from, IsLeastToken}
use Rattle.least_breaks.proofs.Tokens.{is-least}
use Rattle.edge_breaks.specs.Links.{is_fit, least_unfit}
use Rattle.edge_breaks.specs.Joins.{AreJoined}

abbrev tokens : (EdgeOn → Bool) → List EdgeOn → List ℕ
tokens test es = map (λ (e : EdgeOn). e.spot.at) (filter test es)

by-tokens : (ss : List Signal) (joined : List Bool) (test : EdgeOn → Bool) → ((e : EdgeOn) → not (is_fit ss joined e.signal) ≡ test e) → (es : List EdgeOn) (acc : Option ℕ)
    → least_unfit ss joined acc es ≡ least_from acc (tokens test es)
unfolding least_from
by-tokens ss joined test same [] acc = refl
by-tokens ss joined test same (e ∷ es) acc =
    ap (λ b. least_unfit ss joined (cond b (with_token acc e.spot.at) acc) es) (same e) ∙ by (test e) (by-tokens ss joined test same es)
  where
    by : (b : Bool) → ((a : Option ℕ) → least_unfit ss joined a es ≡ least_from a (tokens test es))
        → least_unfit ss joined (cond b (with_token acc e.spot.at) acc) es ≡ least_from acc (map (λ (x : EdgeOn). x.spot.at) (cond b (e ∷ filter test es) (filter test es)))
    by true h = h (with_token acc e.spot.at)
    by false h = h acc

module _ (d : Design) (joined : List Bool) (are : AreJoined d joined) where
  abbrev unfit : EdgeOn → Bool
  unfit e = not ((B.width_at d e.signal == 1) && B.is_joined d (length d.signals) e.signal)

  fit-agrees : (n : ℕ) → is_fit d.signals joined n ≡ ((B.width_at d n == 1) && B.is_joined d (length d.signals) n)
  fit-agrees n = elim (cases_lt n (length d.signals)) [
    | inl low ↦ ap (λ b. (B.width_at d n == 1) && b) (are.each n low)
    | inr past ↦
        (let none = slice_get_past d.signals n past in
        ap (λ (o : Option Signal). (elim o [ None ↦ 0 | Some s ↦ width_of s.of ] == 1) && slice_index_or joined n false) none
        ∙ sym (ap (λ (o : Option Signal). (elim o [ None ↦ 0 | Some s ↦ width_of s.of ] == 1) && B.is_joined d (length d.signals) n) none))
  ]

  unfit-is : (es : List EdgeOn) → least_unfit d.signals joined None es ≡ least_from None (tokens unfit es)
  unfit-is es = by-tokens d.signals joined unfit (λ e. ap not (fit-agrees e.signal)) es None

abbrev unfit_by : Design → ProcessKind → List ℕ
unfit_by d k = elim k [
  | K.Edges es ↦ map (λ (e : EdgeOn). e.spot.at) (filter (λ (e : EdgeOn). not ((B.width_at d e.signal == 1) && B.is_joined d (length d.signals) e.signal)) es)
  | other ↦ []
]

pub unfit-law : (ss : List Signal) (joined : List Bool) (p : Process) (es : List EdgeOn) (r : Option ℕ) → p.kind ≡ K.Edges es → r ≡ least_unfit ss joined None es
    → (d : Design) → ss ≡ d.signals → AreJoined d joined → IsLeastToken (B.unfit_edges d p) r
unfit-law ss joined p es r kind is d same are =
    is-least (B.unfit_edges d p) r
    (sym (is ∙ ap (λ (xs : List Signal). least_unfit xs joined None es) same ∙ unfit-is d joined are es ∙ sym (ap (λ (k : ProcessKind). least_from None (unfit_by d k)) kind)))

none-unfit : (d : Design) (k : ProcessKind) → unfit_by d k ≡ [] → (t : ℕ) → Member (unfit_by d k) t → ⊥
none-unfit d k none t m = elim (subst (λ ts. Member ts t) none m) [ ]

-- of a process that waits for no edges
pub no-edges-law : (p : Process) (k : ProcessKind) → p.kind ≡ k → ((d : Design) → unfit_by d k ≡ []) → (d : Design) → IsLeastToken (B.unfit_edges d p) None
no-edges-law p k kind none d = none-unfit d p.kind (ap (unfit_by d) kind ∙ none d)
