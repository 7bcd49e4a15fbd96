-- The lines of a text, sorted.
use Rattle.std.proofs.Common.{◌≡◌, ◌<◌, ◌≤◌, ℕ, true, false, List, [], ◌∷◌, ◌++◌, length, take, Option, Some, None, refl, sym, ap, ◌∙◌, subst, arith, append_assoc, append-nil, true≢false}
use Rattle.std.specs.Cmp.{IsTotalOrder, IsStrictWeakOrder}
use Rattle.std.specs.Cmp.Lexicographic.{nat_list_cmp_total}
use Rattle.std.specs.Ordering.{is_lt, ordering_reverse}
use Rattle.std.specs.declared.cmp.Ordering.{Ordering}
use Rattle.std.specs.declared.cmp.Ordering.TheVariants.{Less, Equal, Greater}
use Rattle.std.proofs.lemmas.List.{length-take-le}
use Rattle.std.proofs.lemmas.List.MinMax.{ranks_by}
use Rattle.io_state.specs.Rank.{value_cmp}
use Rattle.record_layout.specs.Schema.{Schema, prime_of}
use Rattle.record_loading.specs.LineForm.{LineForm, BeginsWith, BeginsWithNone, ReadsLineOf}
use Rattle.record_loading.specs.Passing.{CanBeRecord, behind_line}
use Rattle.record_loading.specs.declared.sorting.TextLine.{TextLine}
use Rattle.record_loading.specs.SortedText.{line_cmp, prime_in, stands_before, IsLineWith, IsLineAtFront, AreTextLines}
use Rattle.record_loading.proofs.HeaderLemmas.{shorter}
use Rattle.record_loading.proofs.PassingLemmas.{behind_shorter, begins_front, line_front}

-- ---- the order of lines

above_less : Greater ≡ Less → ⊥
above_less e = true≢false (sym (ap is_lt e))

tied_less : Equal ≡ Less → ⊥
tied_less e = true≢false (sym (ap is_lt e))

above_tied : Greater ≡ Equal → ⊥
above_tied e = tied_less (sym (ap ordering_reverse e))

antisymm : (x y : Option (List ℕ)) → line_cmp x y ≡ ordering_reverse (line_cmp y x)
antisymm (Some v) (Some w) = nat_list_cmp_total.antisymm v w
antisymm (Some v) None = refl
antisymm None (Some w) = refl
antisymm None None = refl

trans : (x y z : Option (List ℕ)) → line_cmp x y ≡ Less → line_cmp y z ≡ Less → line_cmp x z ≡ Less
trans (Some v) (Some w) (Some u) first second = nat_list_cmp_total.trans v w u first second
trans (Some v) (Some w) None first second = refl
trans (Some v) None (Some u) first second = absurd (above_less second)
trans (Some v) None None first second = refl
trans None (Some w) z first second = absurd (above_less first)
trans None None z first second = absurd (tied_less first)

congr : (x y z : Option (List ℕ)) → line_cmp x y ≡ Equal → line_cmp x z ≡ line_cmp y z
congr (Some v) (Some w) (Some u) tied = nat_list_cmp_total.congr v w u tied
congr (Some v) (Some w) None tied = refl
congr (Some v) None z tied = absurd (tied_less (sym tied))
congr None (Some w) z tied = absurd (above_tied tied)
congr None None z tied = refl

line_total : IsTotalOrder line_cmp
line_total = record { antisymm = antisymm; trans = trans; congr = congr }

pub lines_ranked : IsStrictWeakOrder stands_before
lines_ranked = ranks_by line_total prime_in

-- ---- the first line

module _ (schema : Schema) (form : LineForm) (text : List ℕ) where
  -- it is that of no record
  pub other_first : (line : TextLine) (behind : List ℕ) → prime_in line ≡ None → 0 < length text → BeginsWithNone form.pad form.form text schema.least schema.greatest → behind ≡ behind_line text
      → ((front : List ℕ) → text ≡ front ++ behind → line.line.now ≡ front) → IsLineAtFront schema form line text behind
  other_first line behind unread some none is before =
      let front = line_front text in
      let split : text ≡ front.0 ++ behind = front.1 ∙ ap (λ (l : List ℕ). front.0 ++ l) (sym is) in
      record {
        some = subst (λ (l : List ℕ). length l < length text) (sym is) (behind_shorter text some);
        whole = split ∙ ap (λ (l : List ℕ). l ++ behind) (sym (before front.0 split));
        with_prime = subst (λ (given : Option (List ℕ)). IsLineWith schema form given text behind) (sym unread) (record { none = none; behind_is = is });
      }

  -- it is that of a record
  pub record_first : (line : TextLine) (behind prime area area_now : List ℕ) (n : ℕ) → prime_in line ≡ Some prime → length area ≡ schema.greatest → length area_now ≡ length area
      → ReadsLineOf form text schema.least area area_now n behind → prime ≡ prime_of schema (take n area_now)
      → ((front : List ℕ) → text ≡ front ++ behind → line.line.now ≡ front) → IsLineAtFront schema form line text behind
  record_first line behind prime area area_now n read greatest same reads value before =
      let front = begins_front form.pad form.form (length area) text (take n area_now) behind reads.begins in
      let fewer = shorter form text schema.least area area_now n behind reads in
      let within = reads.within in
      let least = reads.long in
      let long : length (take n area_now) ≡ n = length-take-le n area_now (omega (arith, within, same)) in
      record {
        some = omega (arith, fewer);
        whole = front.1 ∙ ap (λ (l : List ℕ). l ++ behind) (sym (before front.0 front.1));
        with_prime = subst (λ (given : Option (List ℕ)). IsLineWith schema form given text behind) (sym read)
            (record {
              bytes = take n area_now;
              begins = subst (λ (most : ℕ). BeginsWith form.pad form.form most text (take n area_now) behind) greatest reads.begins;
              can_be = record { are_bytes = reads.are_bytes; length_is = record { least = omega (arith, long, least); greatest = omega (arith, long, within, greatest) } };
              prime_is = value;
            });
      }

-- ---- lines one after another

-- the lines so far lead from a text to the rest of it
pub record LeadTo (schema : Schema) (form : LineForm) (lines : List TextLine) (text rest : List ℕ) : Type 0 where
  pub more : (after : List TextLine) → AreTextLines schema form after rest → AreTextLines schema form (lines ++ after) text

module _ (schema : Schema) (form : LineForm) where
  pub none_led : (text : List ℕ) → LeadTo schema form [] text text
  none_led text = record { more = λ after are. are }

  pub one_led : (lines : List TextLine) (line : TextLine) (text rest behind : List ℕ) → LeadTo schema form lines text rest → IsLineAtFront schema form line rest behind
      → LeadTo schema form (lines ++ line ∷ []) text behind
  one_led lines line text rest behind led first = record {
    more = λ after are. subst (λ (all : List TextLine). AreTextLines schema form all text) (sym (append_assoc lines (line ∷ []) after)) (led.more (line ∷ after) (behind, first, are));
  }

  pub all_led : (lines : List TextLine) (text rest : List ℕ) → LeadTo schema form lines text rest → rest ≡ [] → AreTextLines schema form lines text
  all_led lines text rest led none = subst (λ (all : List TextLine). AreTextLines schema form all text) (append-nil lines) (led.more [] none)
