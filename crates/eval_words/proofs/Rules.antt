-- The rule of an argument of at least one value.
use Rattle.std.proofs.Common.{◌≡◌, ap, sym, refl, ◌∙◌, true, ℕ, List, [], Option, Some, None, IsSomeAnd, if◌then◌else◌}
use Rattle.clap.specs.Lexer.{usize_max}
use Rattle.clap.specs.Words.{Rule, Row, rule_of, new_rule, is_simple, is_simple_and_free, matches_of, fault_of}
use Rattle.clap.specs.Walk.{is_empty}
use Rattle.clap.proofs.OnLiterals.{clap_on_literals}
use Rattle.eval_words.specs.declared.words.Language.{Language}
use Rattle.eval_words.specs.Command.{eval_app}
use Rattle.eval_words.specs.Words.{run_of, run_in, run_asked}
use Rattle.clap.specs.declared.builder.arg.Arg.{Arg}
use Rattle.clap.specs.declared.builder.range.ValueRange.{ValueRange}

some-range : (o : Option ValueRange) (v : ValueRange) → IsSomeAnd o (λ r. r ≡ v) → o ≡ Some v
some-range None v p = absurd p
some-range (Some r) v p = ap Some p

pub several : (a b c : Arg) (r : Rule) (v : ValueRange) → rule_of a ≡ r → b ≡ record a { num_vals = b.num_vals } → IsSomeAnd b.num_vals (λ n. n ≡ v) → c ≡ record b { required = true }
    → rule_of c ≡ record r { range = Some v; required = true }
several a b c r v e d n f =
    ap rule_of f ∙ ap (λ (x : Arg). rule_of (record x { required = true })) d
    ∙ ap (λ o. record (rule_of a) { range = o; required = true }) (some-range b.num_vals v n)
    ∙ ap (λ (q : Rule). record q { range = Some v; required = true }) e

-- the command is one of which `clap` says the matches and the faults
pub simple : is_simple eval_app ≡ true
unfolding clap_on_literals
simple = refl

pub simple-and-free : is_simple_and_free eval_app ≡ true
unfolding clap_on_literals
simple-and-free = refl

pub of-equals : (l l' : Option Language) (t t' : Option (List ℕ)) (r r' : Option (List ℕ)) (fs fs' : Option (List (List ℕ)))
    → l ≡ l' → t ≡ t' → r ≡ r' → fs ≡ fs' → run_of l t r fs ≡ run_of l' t' r' fs'
of-equals l l' t t' r r' fs fs' a b c d =
    ap (λ x. run_of x t r fs) a ∙ ap (λ x. run_of l' x r fs) b ∙ ap (λ x. run_of l' t' x fs) c ∙ ap (run_of l' t' r') d

-- where the command takes the words
pub taken : (words : List (List ℕ)) (rows : List Row) → rows ≡ matches_of eval_app words → fault_of eval_app words ≡ [] → run_in rows ≡ run_asked words
taken words rows e none = ap run_in e ∙ sym (ap (λ k. if is_empty k then run_in (matches_of eval_app words) else None) none)
