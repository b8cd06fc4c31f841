-- The lines of the replies come one reply at a time, and each line has room: four characters for each byte of its reply. Assumes nothing.
use mathlib.Core.Path.{◌≡◌, refl, sym, ap, ◌∙◌}
use mathlib.Core.List.{List, [], ◌∷◌, ◌++◌}
use mathlib.Core.Bool.{Bool, true, false, cond}
use Prim.Native.Nat.{ℕ, zero, suc, ◌+◌, ◌*◌, ◌-◌, ◌≤◌, ◌<◌}
use native.Mathlib.Omega.{arith}
use native.Mathlib.Nat.{not-suc-le-zero}
use lib.ListN.{length, take, drop, get_or, length-append, length-take, length-drop, drop_of_length-le}
use lib.Dec.{ltb}
use borrow.Author.Tests.{lt-ltb}
use lib.Seq.{drop-drop, take_all, get_or-drop, take-append_seam, drop-append_seam}
use Rattle.numbers.specs.Little.{word_at}
use Rattle.numbers.proofs.Exact.{two_bytes}
use Rattle.listing.specs.Text.{Adds}
use Rattle.listing.specs.Listing.{line_of, reply_bytes, kind_from, reply_kind, reply_refusal, reply_data, reply_size, reply_line, has_reply, whole_size, Front}
use Rattle.listing.specs.Listing.{lines_up_to, lines_of}
use Rattle.listing.proofs.Adding.{all_added, next_added}
use Rattle.listing.proofs.Decimal.{short}
use Rattle.listing.proofs.Lines.{line_length, data_length}
use Rattle.listing.proofs.Replies.{front, found, is_whole}

-- what follows matters only where a whole reply stands at the front
same_rest : (l line a b : List ℕ) → (has_reply l ≡ true → a ≡ b) → cond (has_reply l) (line ++ a) [] ≡ cond (has_reply l) (line ++ b) []
same_rest l line a b h = pick (has_reply l) refl
  where
    pick : (t : Bool) → has_reply l ≡ t → cond t (line ++ a) [] ≡ cond t (line ++ b) []
    pick true e = ap (λ (x : List ℕ). line ++ x) (h e)
    pick false e = refl

-- more turns than bytes make no difference
enough : (f g number : ℕ) (l : List ℕ) → length l ≤ f → length l ≤ g → lines_up_to f number l ≡ lines_up_to g number l
unfolding lines_up_to
enough zero zero number l a b = refl
enough zero (suc g) number [] a b = unfold has_reply in refl
enough zero (suc g) number (x ∷ l) a b = absurd (not-suc-le-zero a)
enough (suc f) zero number [] a b = unfold has_reply in refl
enough (suc f) zero number (x ∷ l) a b = absurd (not-suc-le-zero b)
enough (suc f) (suc g) number l a b =
    same_rest l (reply_line number l) (lines_up_to f (number + 1) (drop (reply_size l) l)) (lines_up_to g (number + 1) (drop (reply_size l) l)) (λ e.
    let w = front l e in
    let d = length-drop (reply_size l) l in
    enough f g (number + 1) (drop (reply_size l) l) (omega arith) (omega arith))

-- no whole reply, no line
pub no_more : (number : ℕ) (l : List ℕ) → has_reply l ≡ false → lines_of number l ≡ []
unfolding lines_up_to
no_more number [] e = refl
no_more number (x ∷ l) e = rw e

-- the first line, and the lines of what follows it
pub one_more : (number : ℕ) (l : List ℕ) → has_reply l ≡ true → lines_of number l ≡ reply_line number l ++ lines_of (number + 1) (drop (reply_size l) l)
unfolding lines_up_to
one_more number [] e = unfold has_reply in (let z : ◌≡◌ {A = ℕ} 0 1 = cc in absurd (omega arith))
one_more number (x ∷ l) e =
    let r = drop (reply_size (x ∷ l)) (x ∷ l) in
    let w = front (x ∷ l) e in
    let d = length-drop (reply_size (x ∷ l)) (x ∷ l) in
    rw (e, enough (length l) (length r) (number + 1) r (omega arith) (omega arith))

-- a record's kind is no more than the word of its reply
kind_low : (word : ℕ) → kind_from word ≤ word
kind_low word = pick (ltb word 32768)
  where
    pick : (b : Bool) → cond b (word - 128) (word - 32768) ≤ word
    pick true = omega arith
    pick false = omega arith

-- a line has at most four characters for each byte of its reply
pub line_short : (number : ℕ) (l : List ℕ) (size : ℕ) → Front l size → number < 100000 → get_or l 2 0 < 256 → get_or l 3 0 < 256 → get_or l 4 0 < 256
    → length (reply_line number l) ≤ 4 * size
line_short number l size f n a b c =
    omega (
      arith,
      f.is_size,
      f.at_least,
      line_length number (reply_kind l) (reply_refusal l) (reply_data l),
      short 20 5 number (omega arith) (omega arith),
      short 20 5 (reply_kind l) (omega arith) (omega (arith, kind_low (word_at l 2))),
      short 20 3 (reply_refusal l) (omega arith) (omega arith),
      data_length (reply_data l),
      length-take (reply_size l - 5) (drop 5 l),
    )

-- the same of the reply that stands after the bytes passed
pub next_short : (replies : List ℕ) (number at size : ℕ) → ((i : ℕ) → get_or replies i 0 < 256) → length replies ≤ 65536 → at ≤ length replies
    → 5 * number ≤ at + 5 → Front (drop at replies) size → length (reply_line number (drop at replies)) ≤ 4 * size
next_short replies number at size bytes few in_it h f =
    line_short number (drop at replies) size f (omega arith) (byte 2) (byte 3) (byte 4)
  where
    byte : (i : ℕ) → get_or (drop at replies) i 0 < 256
    byte i = rw (get_or-drop at replies i 0) (bytes (at + i))

-- a size that is not 0 is that of the whole reply at the front
pub sized : (l : List ℕ) (size : ℕ) → size ≡ whole_size l → (size ≡ 0 → ⊥) → (has_reply l ≡ true) × Front l size
sized l size e h =
    let w = found l (λ z. h (e ∙ z)) in
    let k : size ≡ reply_size l = e ∙ ap (λ (b : Bool). cond b (reply_size l) 0) w in
    (w, rw k (front l w))

-- the line made of what the code reads
pub as_line : (number : ℕ) (l : List ℕ) (size kind word : ℕ) → size ≡ reply_size l → kind ≡ kind_from word → word ≡ word_at l 2
    → line_of number kind (get_or l 4 0) (take (size - 5) (drop 5 l)) ≡ reply_line number l
as_line number l size kind word e k f = rw (e, k, f)

-- a part up to the end is all that is left
pub all_rest : (l : List ℕ) (at : ℕ) → take (length l - at) (drop at l) ≡ drop at l
all_rest l at = take_all (length l - at) (drop at l) (simp length-drop (omega arith))

-- where the lines stand: the place in the text, the next record's number, and the bytes of replies passed
pub record Going (replies before after : List ℕ) (place number at : ℕ) : Type 0 where
  pub at_most : at ≤ length replies
  pub same : length after ≡ length before
  pub few : 5 * number ≤ at + 5
  pub room : place ≤ 4 * at
  pub so_far : lines_of 1 replies ≡ take place after ++ lines_of number (drop at replies)

pub starts : (replies out : List ℕ) → Going replies out out 0 1 0
starts replies out = record { at_most = omega arith; same = refl; few = omega arith; room = omega arith; so_far = refl }

module _ (replies before after : List ℕ) (place number at : ℕ) (g : Going replies before after place number at) (fits : 4 * length replies ≤ length before)
  where
    -- no line is left
    pub ends : lines_of number (drop at replies) ≡ [] → Adds (lines_of 1 replies) before after 0 place
    ends e = all_added g.so_far (omega (arith, g.room, g.at_most, g.same)) e

    pub stops : has_reply (drop at replies) ≡ false → Adds (lines_of 1 replies) before after 0 place
    stops e = ends (no_more number (drop at replies) e)

    pub finishes : length replies ≤ at → Adds (lines_of 1 replies) before after 0 place
    finishes h = ends (rw (drop_of_length-le replies h) (no_more number [] (unfold has_reply in refl)))

    -- one line more
    pub goes_on : (out : List ℕ) (new size : ℕ) → has_reply (drop at replies) ≡ true → Front (drop at replies) size → length out ≡ length after
        → length (reply_line number (drop at replies)) ≤ 4 * size → Adds (reply_line number (drop at replies)) after out place new
        → Going replies before out new (number + 1) (at + size)
    goes_on out new size e f s h a =
        let rest = drop at replies in
        let d = length-drop at replies in
        let line = reply_line number rest in
        let tail = lines_of (number + 1) (drop (at + size) replies) in
        let next : lines_of number rest ≡ line ++ tail =
        one_more number rest e
        ∙ ap (λ (n : ℕ). line ++ lines_of (number + 1) (drop n rest)) (sym f.is_size)
        ∙ ap (λ (x : List ℕ). line ++ lines_of (number + 1) x) (drop-drop size at replies) in
        record {
          at_most = omega (arith, f.within, g.at_most);
          same = s ∙ g.same;
          few = omega (arith, g.few, f.at_least);
          room = omega (arith, a.moved, g.room);
          so_far = next_added g.so_far line tail next a;
        }

-- the word of a core's reply is read back
pub core_kind : (kind word : ℕ) → kind < 32640 → word ≡ kind + 128 → kind_from word ≡ kind
core_kind kind word low e = rw (lt-ltb word 32768 (omega arith)) (omega arith)

-- a reply as 01 lays it out has its own line, with the record's kind, and the lines go on after it
pub reply_listed : (number kind refusal : ℕ) (bytes rest : List ℕ) → kind < 32640
    → lines_of number (reply_bytes kind refusal bytes ++ rest) ≡ line_of number kind refusal bytes ++ lines_of (number + 1) rest
reply_listed number kind refusal bytes rest low =
    let l = reply_bytes kind refusal bytes ++ rest in
    let size : reply_size l ≡ 5 + length bytes = omega (arith, two_bytes (3 + length bytes)) in
    let word : word_at l 2 ≡ kind + 128 = two_bytes (kind + 128) in
    let n = length-append bytes rest in
    let w : has_reply l ≡ true = is_whole l (omega arith) (omega arith) (omega arith) (omega arith) in
    let long : reply_size l - 5 ≡ length bytes = omega arith in
    let data_is : reply_data l ≡ bytes = ap (λ (k : ℕ). take k (bytes ++ rest)) long ∙ take-append_seam bytes rest in
    let whole_is : reply_size l ≡ length (reply_bytes kind refusal bytes) = omega arith in
    let rest_is : drop (reply_size l) l ≡ rest = ap (λ (k : ℕ). drop k l) whole_is ∙ drop-append_seam (reply_bytes kind refusal bytes) rest in
    let kind_is : reply_kind l ≡ kind = core_kind kind (word_at l 2) low word in
    one_more number l w
    ∙ ap (λ (k : ℕ). line_of number k refusal (reply_data l) ++ lines_of (number + 1) (drop (reply_size l) l)) kind_is
    ∙ ap (λ (b : List ℕ). line_of number kind refusal b ++ lines_of (number + 1) (drop (reply_size l) l)) data_is
    ∙ ap (λ (r : List ℕ). line_of number kind refusal bytes ++ lines_of (number + 1) r) rest_is
