-- Every page fits: the lister's buffer is never too short.
-- Assumes nothing.
use mathlib.Core.Path.{◌≡◌, refl, ◌∙◌, ap}
use mathlib.Core.List.{List, [], ◌∷◌}
use Prim.Native.Nat.{ℕ, suc, ◌*◌, ◌%◌, ◌≤◌}
use native.Mathlib.Omega.{arith}
use lib.ListN.{length}
use Rattle.base_prelude.specs.Lists.{overlay}
use Rattle.base_prelude.proofs.Choice.{if_lt-no, either_true}
use Rattle.base_limits.specs.declared.Width.TheVariants.{Bits32}
use Rattle.res_hosts.specs.Lister.{lister_hosts}
use Rattle.check_judge.specs.Judge.{Known, Judged, refusal, fine, judge_of}
use Rattle.check_source.specs.Check.{Filled, refuse, accept, has_room, answer_to, check_of}
use Rattle.check_source.proofs.Cases.{room-labels}
use Rattle.app_page.specs.Page.{accepted_page, Shown, shown, shown_on}
use Rattle.std.specs.Prelude.{Option, Some}
use Rattle.std.specs.Option.{unwrap_or}
use Rattle.app_page.proofs.Fits.{accepted-within, refused-within}
use Rattle.app_listing.specs.Listing.{full_tables, page_by, page_of, list_of, page_room}

abbrev Fits : List ℕ → Filled → Type 0
Fits s x = length (page_of s x) ≤ page_room

refused-fits : (s : List ℕ) (number place : ℕ) → Fits s (refuse number place full_tables)
unfolding refuse page_of page_by
refused-fits s number place = omega (arith, refused-within s number (place % 4294967296))

within-room : (c l size : ℕ) (table names rows : List ℕ) → l * 4 ≤ 1024 → length (accepted_page c l size table names rows) ≤ page_room
within-room c l size table names rows h = omega (arith, h, accepted-within c l size table names rows)

accepted-fits : (s : List ℕ) (p : Known) (size : ℕ) → p.l * 4 ≤ 1024 → Fits s (accept Bits32 s p size full_tables)
unfolding accept page_of page_by
accepted-fits s p size h = within-room p.c p.l size _ _ _ h

judged-fits : (s : List ℕ) (j : Judged) → Fits s (answer_to Bits32 s j full_tables)
unfolding answer_to
judged-fits s (refusal number place) = refused-fits s number place
judged-fits s (fine p size) =
    either_true (Fits s) (has_room full_tables p.n p.c p.l size) _ _
    (λ h. accepted-fits s p size (room-labels _ _ _ _ _ p.n p.c p.l size h)) (λ h. refused-fits s 16 0)

-- the page of any source fits
pub page-fits : (s : List ℕ) → length (list_of s) ≤ page_room
unfolding list_of check_of
page-fits s = judged-fits s (judge_of Bits32 lister_hosts s)

overlay-length : (xs ys : List ℕ) → length (overlay xs ys) ≡ length ys
unfolding overlay
overlay-length [] [] = refl
overlay-length (x ∷ xs) [] = refl
overlay-length [] (y ∷ ys) = ap suc (overlay-length [] ys)
overlay-length (x ∷ xs) (y ∷ ys) = ap suc (overlay-length xs ys)

-- ---- so the buffer of `list_whole` is never too short

module _ (s out out' : List ℕ) (r : Option ℕ) (long : length out ≡ page_room) (e : shown r out' ≡ shown_on (list_of s) out) where
  whole : shown r out' ≡ shown (Some (length (list_of s))) (overlay (list_of s) out)
  unfolding shown_on
  whole = e ∙ if_lt-no _ _ (omega (arith, long, page-fits s))

  pub whole-page : out' ≡ overlay (list_of s) out
  whole-page = ap (λ (x : Shown). x.out) whole

  pub whole-size : (n : ℕ) → n ≡ unwrap_or r 0 → n ≡ length (list_of s)
  whole-size n q = q ∙ ap (λ (x : Shown). unwrap_or x.answer 0) whole

  over-long : length out' ≡ length out
  over-long = ap length whole-page ∙ overlay-length (list_of s) out

  pub whole-small : (n : ℕ) → n ≡ unwrap_or r 0 → n ≤ length out'
  whole-small n q = omega (arith, whole-size n q, page-fits s, over-long, long)

pub ruleset whole-ways = (whole-page, whole-size, whole-small)
