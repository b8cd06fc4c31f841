-- The head of a record: by its tests, which case of `head_of` holds; what a whole record holds, and that this makes its head. Assumes nothing.
use mathlib.Core.Path.{◌≡◌, refl, sym, ap, subst, ◌∙◌}
use mathlib.Core.List.{List}
use Prim.Native.Nat.{ℕ, ◌+◌, ◌-◌, ◌≤◌, ◌<◌, zero-le}
use native.Mathlib.Omega.{arith}
use native.Mathlib.Nat.{add-sub_cancel_left}
use lib.Dec.{lit≤}
use lib.ListN.{length, get_or}
use borrow.Author.Tests.{lt-ltb, le-ltb}
use Rattle.terms.specs.declared.Refusal.{Refusal}
use Rattle.terms.specs.declared.Refusal.TheVariants.{NoSuchKind, CutShort, BadLength}
use Rattle.terms.specs.Refusal.{number_of}
use Rattle.terms.specs.Limits.{least_length}
use Rattle.record_files.proofs.Tests.{either_lt, either_eq}
use Rattle.record_runs.specs.Record.{Event}
use Rattle.record_runs.specs.Record.{Push, Pop, Command, Status, Reset, Acknowledge, Recall, Forget}
use Rattle.terms.specs.declared.EventKind.{EventKind}
use Rattle.std.specs.Prelude.{Result, Ok, Err}
use Rattle.record_runs.specs.Record.{Head}
use Rattle.record_runs.specs.Record.{Whole, Stop}
use Rattle.record_runs.specs.Record.{word_at, kind_of, payload_of, answered_of, exactly, row_by, row_under, frame_under, head_in, head_under, Carried}
use Rattle.record_runs.specs.Record.{Holds}

module _ (most : ℕ) (l : List ℕ) where
  -- fewer than two bytes
  pub short : length l < 2 → frame_under most l ≡ Err CutShort
  unfolding frame_under
  short a = simp lt-ltb

  -- a length out of range
  pub low : 2 ≤ length l → word_at l 0 < least_length → frame_under most l ≡ Err BadLength
  unfolding frame_under
  low a b = simp (lt-ltb, le-ltb)

  pub high : 2 ≤ length l → least_length ≤ word_at l 0 → least_length + most < word_at l 0 → frame_under most l ≡ Err BadLength
  unfolding frame_under
  high a b d = simp (lt-ltb, le-ltb)

  -- bytes missing
  pub cut : 2 ≤ length l → least_length ≤ word_at l 0 → word_at l 0 ≤ least_length + most → length l - 2 < word_at l 0 → frame_under most l ≡ Err CutShort
  unfolding frame_under
  cut a b d e = simp (lt-ltb, le-ltb)

  -- all bytes there
  pub whole : 2 ≤ length l → least_length ≤ word_at l 0 → word_at l 0 ≤ least_length + most → word_at l 0 ≤ length l - 2 → frame_under most
      l ≡ Ok (word_at l 0 - 2)
  unfolding frame_under
  whole a b d e = simp le-ltb

-- a refusal that stops the run
abbrev pub Stops : Refusal → Type 0
Stops r = (5 ≤ number_of r) × (number_of r ≤ 7)

-- what holds of each refusal, and of each event that its row carries, holds of a row
module _ (P : Head → Type 0) (stop : (r : Refusal) → Stops r → P (Stop r)) (most n first : ℕ) where
  bad : P (Stop BadLength)
  bad = stop BadLength (lit≤ tt, lit≤ tt)

  -- of the row of a kind
  abbrev R : EventKind → Type 0
  R k = P (row_by most k n first)

  exact : (wanted : ℕ) (e : Event) → (n ≡ wanted → P (Whole e)) → P (exactly wanted n e)
  exact wanted e w = either_eq P n wanted _ _ w (λ h. bad)

  pub rows : (kind : ℕ) → ((e : Event) → kind ≡ kind_of e → n ≡ payload_of e → Carried most first e → P (Whole e)) → P (row_under most kind n first)
  rows kind w =
      either_eq R kind 1 _ _ (λ k. either_lt P n 1 _ _ (λ h. bad) (λ h. w (Push n) k refl h)) (λ a.
      either_eq R kind 2 _ _
      (λ k. either_eq P n 1 _ _
      (λ h. either_lt P first 1 _ _ (λ i. bad) (λ i. either_lt P most first _ _ (λ j. bad) (λ j. w (Pop first) k h (refl, i, j))))
      (λ h. bad)) (λ b.
      either_eq R kind 3 _ _ (λ k. exact 1 (Command first) (λ h. w (Command first) k h refl)) (λ d.
      either_eq R kind 4 _ _ (λ k. exact 0 Status (λ h. w Status k h tt)) (λ e.
      either_eq R kind 5 _ _ (λ k. exact 0 Reset (λ h. w Reset k h tt)) (λ f.
      either_eq R kind 6 _ _ (λ k. exact 0 Acknowledge (λ h. w Acknowledge k h tt)) (λ g.
      either_eq R kind 7 _ _ (λ k. exact 0 Recall (λ h. w Recall k h tt)) (λ i.
      either_eq R kind 8 _ _ (λ k. exact 0 Forget (λ h. w Forget k h tt)) (λ j. stop NoSuchKind (lit≤ tt, lit≤ tt)))))))))

-- what a frame says of the file: all bytes of a payload of this size, at most so many, are there
pub record Fits (most : ℕ) (l : List ℕ) (n : ℕ) : Type 0 where
  pub length-is : word_at l 0 ≡ 2 + n
  pub there : 4 + n ≤ length l
  pub small : n ≤ most

-- what holds of 6 and 7, and of each size that fits, holds of the frame
pub frames : {most : ℕ} (P : Result ℕ Refusal → Type 0) → ((r : Refusal) → Stops r → P (Err r)) → (l : List ℕ) → ((n : ℕ) → Fits most l n → P (Ok n))
    → P (frame_under most l)
unfolding frame_under
frames {most} P broken l w =
    either_lt P (length l) 2 _ _ (λ a. broken CutShort (lit≤ tt, lit≤ tt)) (λ a.
    either_lt P (word_at l 0) least_length _ _ (λ b. broken BadLength (lit≤ tt, lit≤ tt)) (λ b.
    either_lt P (least_length + most) (word_at l 0) _ _ (λ d. broken BadLength (lit≤ tt, lit≤ tt)) (λ d.
    either_lt P (length l - 2) (word_at l 0) _ _ (λ h. broken CutShort (lit≤ tt, lit≤ tt)) (λ h.
    w (word_at l 0 - 2) (record { length-is = omega arith; there = omega arith; small = omega arith })))))

-- what holds of each refusal that stops, and of each event that a whole record holds, holds of the head
pub heads : {most : ℕ} (P : Head → Type 0) → ((r : Refusal) → Stops r → P (Stop r)) → (l : List ℕ) → ((e : Event) → Holds most l e → P (Whole e))
    → P (head_under most l)
heads {most} P stop l w =
    frames (λ f. P (head_in most l f)) stop l (λ n f. rows P stop most n (get_or l 4 0) (word_at l 2) (λ e k p q. w e (record {
      length-is = omega (arith, f.length-is, p);
      kind_is = k;
      there = omega (arith, f.there, p);
      small = omega (arith, f.small, p);
      carried = q;
    })))

-- the row of an event that a record carries
row_is : (most : ℕ) (e : Event) (first : ℕ) → Carried most first e → row_under most (kind_of e) (payload_of e) first ≡ Whole e
row_is most (Push n) first h = rw (le-ltb n 1 h)
row_is most (Pop n) first h = rw (sym h.0, le-ltb n 1 h.1, le-ltb most n h.2)
row_is most (Command code) first h = rw (sym h)
row_is most Status first h = refl
row_is most Reset first h = refl
row_is most Acknowledge first h = refl
row_is most Recall first h = refl
row_is most Forget first h = refl

module _ {most : ℕ} (l : List ℕ) (e : Event) (h : Holds most l e) where
  -- a whole record's head is its event
  pub head_is : head_under most l ≡ Whole e
  head_is =
      let n = h.length-is in
      ap (head_in most l) (whole most l (omega (arith, h.there)) (omega arith) (omega (arith, h.small)) (omega (arith, h.there)))
      ∙ rw (h.kind_is, n, add-sub_cancel_left 2 (payload_of e)) (row_is most e (get_or l 4 0) h.carried)

-- the data of its reply are few
pub few : {most : ℕ} (l : List ℕ) (e : Event) → 2 ≤ most → Holds most l e → answered_of e ≤ most
few l (Push n) m h = zero-le
few l (Pop n) m h = h.carried.2
few l (Command code) m h = zero-le
few l Status m h = omega arith
few l Reset m h = zero-le
few l Acknowledge m h = zero-le
few l Recall m h = m
few l Forget m h = zero-le

-- what each frame and each head says of the file
abbrev Frames : ℕ → List ℕ → Result ℕ Refusal → Type 0
Frames most l (Ok n) = Fits most l n
Frames most l (Err r) = Stops r

abbrev Reads : ℕ → List ℕ → Head → Type 0
Reads most l (Whole e) = Holds most l e
Reads most l (Stop r) = Stops r

-- a frame of so many bytes of payload
pub fits : (most : ℕ) (l : List ℕ) (n : ℕ) → frame_under most l ≡ Ok n → Fits most l n
fits most l n h = subst (Frames most l) h (frames (Frames most l) (λ r s. s) l (λ m f. f))

-- a frame that is broken is 6 or 7
pub frame_stops : (most : ℕ) (l : List ℕ) (r : Refusal) → frame_under most l ≡ Err r → Stops r
frame_stops most l r h = subst (Frames most l) h (frames (Frames most l) (λ q s. s) l (λ m f. f))

-- a head that is an event stands for a whole record of it
pub holds : (most : ℕ) (l : List ℕ) (e : Event) → head_under most l ≡ Whole e → Holds most l e
holds most l e h = subst (Reads most l) h (heads (Reads most l) (λ r s. s) l (λ d p. p))

-- a head that is a refusal is 5, 6 or 7
pub stops : (most : ℕ) (l : List ℕ) (r : Refusal) → head_under most l ≡ Stop r → Stops r
stops most l r h = subst (Reads most l) h (heads (Reads most l) (λ q s. s) l (λ d p. p))
