-- The sets by which a table is found to be of the class. One number is kept for each head, and passes over the rows make it grow.
use Rattle.std.proofs.Common.{◌≡◌, ℕ, zero, suc, max, min, ◌==◌, nat_lt, ltb-true, Bool, true, cond, ◌&&◌, List, [], ◌∷◌, get_or, set, replicate, reverse, length, Option, Some, None, arith}
use Rattle.std.specs.List.{list_all}
use Rattle.std.specs.Int.Bits.{bit_or}
use Rattle.std.proofs.lemmas.Bool.{and_parts}
use Rattle.ll_engine.specs.declared.table.Part.{Part}
use Rattle.ll_engine.specs.declared.table.Part.TheVariants.{Term, Non, Maybe, Many, Chain}
use Rattle.ll_engine.specs.declared.table.Row.{Row}
use Rattle.ll_engine.specs.Grammar.{named}
use Rattle.ll_engine.specs.Class.{IsFit, BreaksAt, no_rows, at_row}
use Rattle.ll_engine.proofs.class.Firsts as Firsts
use Rattle.ll_engine.proofs.class.Keeping as Keeping

abbrev pub at : List ℕ → ℕ → ℕ
at xs h = get_or xs h 0

-- a head's number becomes what `grow` makes of the numbers, of its own and of a row of it
abbrev pub pass : (List ℕ → ℕ → Row → ℕ) → List Row → List ℕ → List ℕ
pass grow [] xs = xs
pass grow (r ∷ rs) xs = pass grow rs (set xs r.head (grow xs (at xs r.head) r))

abbrev pub passes : ℕ → (List ℕ → List ℕ) → List ℕ → List ℕ
passes zero step xs = xs
passes (suc n) step xs = passes n step (step xs)

abbrev pub nothing : ℕ → ℕ
nothing h = 0

-- each head that the parts must be read by is at most this large
abbrev pub largest : List ℕ → List Part → ℕ
largest xs [] = 0
largest xs (Term a ∷ ps) = largest xs ps
largest xs (Non h ∷ ps) = max (at xs h) (largest xs ps)
largest xs (Maybe h ∷ ps) = largest xs ps
largest xs (Many h ∷ ps) = largest xs ps
largest xs (Chain h ∷ ps) = largest xs ps

module _ (t : List Row) where
  abbrev pub is_blank : List ℕ → ℕ → Bool
  is_blank blanks h = at blanks h == 1

  abbrev pub blanks_grow : List ℕ → ℕ → Row → ℕ
  blanks_grow blanks old r = cond (Firsts.all_skip t nothing (is_blank blanks) r.parts) 1 old

  abbrev pub sizes_grow : List ℕ → ℕ → Row → ℕ
  sizes_grow sizes old r = min old (suc (largest sizes r.parts))

  module _ (blanks : List ℕ) where
    abbrev pub firsts_grow : List ℕ → ℕ → Row → ℕ
    firsts_grow firsts old r = bit_or old (Firsts.firsts t (at firsts) (is_blank blanks) r.parts)

    abbrev pub leads_of : List ℕ → List Part → ℕ
    leads_of leads ps = Keeping.leads t nothing (is_blank blanks) (at leads) nothing nothing nothing ps

    abbrev pub leads_grow : List ℕ → ℕ → Row → ℕ
    leads_grow leads old r = bit_or old (leads_of leads r.parts)

    abbrev pub ranks_grow : List ℕ → ℕ → Row → ℕ
    ranks_grow ranks old r = max old (Keeping.starts_bound t nothing (is_blank blanks) nothing nothing (at ranks) nothing r.parts)

    abbrev pub behind : List ℕ → List ℕ → ℕ → List Part → ℕ
    behind leads follows head ps = bit_or (leads_of leads ps) (cond (Firsts.all_skip t nothing (is_blank blanks) ps) (at follows head) 0)

    abbrev pub follow_part : List ℕ → ℕ → Option ℕ → List Part → List ℕ → List ℕ
    follow_part leads head None ps follows = follows
    follow_part leads head (Some h) ps follows = set follows h (bit_or (at follows h) (behind leads follows head ps))

    abbrev pub follow_parts : List ℕ → ℕ → List Part → List ℕ → List ℕ
    follow_parts leads head [] follows = follows
    follow_parts leads head (p ∷ ps) follows = follow_parts leads head ps (follow_part leads head (named p) ps follows)

    abbrev pub follow_rows : List ℕ → List Row → List ℕ → List ℕ
    follow_rows leads [] follows = follows
    follow_rows leads (r ∷ rs) follows = follow_rows leads rs (follow_parts leads r.head r.parts follows)

  abbrev pub checks : List ℕ → List ℕ → List ℕ → List ℕ → List ℕ → List ℕ → Bool
  checks blanks firsts leads follows ranks sizes =
      list_all (Firsts.row_fits t (at firsts) (is_blank blanks)) t
      && (list_all (Keeping.row_test t (at firsts) (is_blank blanks) (at leads) (at follows) (at ranks) (at sizes)) t
      && (Keeping.each_pair (Keeping.pair_test t (at firsts) (is_blank blanks) (at leads) (at follows) (at ranks) (at sizes)) t
      && nat_lt 0 (length t)))

  -- whether the table is of the class, by `n` passes over the rows of its `heads` heads
  abbrev pub fits : ℕ → ℕ → Bool
  fits n heads =
      let back = reverse t in
      let none = replicate heads 0 in
      let blanks = passes n (pass blanks_grow back) none in
      let leads = passes n (pass (leads_grow blanks) back) none in
      checks blanks (passes n (pass (firsts_grow blanks) back) none) leads (passes n (follow_rows blanks leads t) none)
      (passes n (pass (ranks_grow blanks) back) none) (passes n (pass sizes_grow back) (replicate heads 1000000))

  checks_is : (blanks firsts leads follows ranks sizes : List ℕ) → checks blanks firsts leads follows ranks sizes ≡ true → IsFit t
  checks_is blanks firsts leads follows ranks sizes e =
      let a = and_parts (list_all (Firsts.row_fits t (at firsts) (is_blank blanks)) t) _ e in
      let b = and_parts (list_all (Keeping.row_test t (at firsts) (is_blank blanks) (at leads) (at follows) (at ranks) (at sizes)) t) _ a.1 in
      let c = and_parts (Keeping.each_pair (Keeping.pair_test t (at firsts) (is_blank blanks) (at leads) (at follows) (at ranks) (at sizes)) t) (nat_lt 0 (length t)) b.1 in
      Keeping.fit t (at firsts) (is_blank blanks) (at leads) (at follows) (at ranks) (at sizes) a.0 b.0 c.0 (ltb-true 0 (length t) c.1)

  pub fits_is : (n heads : ℕ) → fits n heads ≡ true → IsFit t
  fits_is n heads e =
      let back = reverse t in
      let none = replicate heads 0 in
      let blanks = passes n (pass blanks_grow back) none in
      let leads = passes n (pass (leads_grow blanks) back) none in
      checks_is blanks (passes n (pass (firsts_grow blanks) back) none) leads (passes n (follow_rows blanks leads t) none)
      (passes n (pass (ranks_grow blanks) back) none) (passes n (pass sizes_grow back) (replicate heads 1000000)) e

-- so a reader of it is never refused
pub never_unfit : (t : List Row) → IsFit t → (at : ℕ) → BreaksAt t at → ⊥
never_unfit t fit at (no_rows e f) = (let h = fit.has_rows in absurd (omega arith))
never_unfit t fit at (at_row {h = h} {row = row} is breaks before) = breaks (fit.keeps at h row is)
