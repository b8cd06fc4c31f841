-- Bytes pushed by the number that is read at their place, and popped by the number on top, are the bytes pushed and popped one after the other. Assumes
-- nothing.
use mathlib.Core.Path.{◌≡◌, refl, sym, ap, ap₂, subst, ◌∙◌}
use mathlib.Core.List.{List, [], ◌∷◌, ◌++◌, append_assoc}
use Prim.Native.Nat.{ℕ, suc, ◌+◌, ◌-◌, ◌*◌, ◌/◌, ◌%◌, ◌≤◌, ◌<◌}
use native.Mathlib.Numerals.{add-one}
use native.Mathlib.Omega.{arith}
use lib.Dec.{lit≤}
use lib.ListN.{length, get_or, take, drop, set, length-drop, take-append-drop, drop_of_length-le}
use lib.Seq.{paste, paste-zero, drop-cons, set_split, length-paste, get_or-drop, take_all}
use Rattle.numbers.specs.Little.{le4, le8, four_at, eight_at}
use Rattle.numbers.proofs.Exact.{le4_of, le8_of}
use Rattle.stack.specs.Stack.{bytes_of, low_first, pushed_all, top_byte, rotated, popped_all, handed_out, tos}
use Rattle.stack.proofs.Elems.{part}
use Rattle.stack.proofs.Moves.{pushes_lay, pops_hand, pops_turn}
use Rattle.stack.proofs.Words.{bytes_tos}
use Rattle.stack.proofs.Several.{length-handed, pushes_append, pop_on, popped_front}
use Rattle.stack.specs.Words.{eight}
use Rattle.stack.proofs.TwoWords.{joined, length-stack, one_byte, is_stack}

-- the bytes of a number, low byte first, as they are pushed
low_4 : (r : ℕ) → low_first 4 r ≡ le4 r
low_4 r =
    let a : r / 256 / 256 ≡ r / 65536 = omega arith in
    let b : r / 65536 / 256 ≡ r / 16777216 = omega arith in
    rw (a, b)

low_8 : (r : ℕ) → low_first 8 r ≡ le8 r
low_8 r =
    let a : r / 256 / 256 / 256 / 256 ≡ r / 4294967296 = omega arith in
    joined (low_4 r) (ap (low_first 4) a ∙ low_4 (r / 4294967296))

low_2 : (x y : ℕ) → x < 256 → y < 256 → low_first 2 (x + y * 256) ≡ x ∷ y ∷ []
low_2 x y X Y =
    let a : (x + y * 256) % 256 ≡ x = omega arith in
    let b : (x + y * 256) / 256 ≡ y = omega arith in
    let c : y % 256 ≡ y = omega arith in
    rw (a, b, c)

-- two, four and eight bytes from a place on, pushed; and the last one
module _ (s p : List ℕ) (at : ℕ) (B : (j : ℕ) → get_or p j 0 < 256) where
  pub by_2 : at + 2 ≤ length p → bytes_of 2 (get_or p at 0 + get_or p (at + 1) 0 * 256) ++ take 14 s ≡ pushed_all s (take 2 (drop at p))
  by_2 h =
      let x = get_or p at 0 in
      let y = get_or p (at + 1) 0 in
      let e : take 2 (drop at p) ≡ x ∷ y ∷ [] = part p 2 at h ∙ ap (λ (k : ℕ). x ∷ get_or p k 0 ∷ []) (sym (add-one at)) in
      sym (ap (pushed_all s) (e ∙ sym (low_2 x y (B at) (B (at + 1)))) ∙ pushes_lay 1 (x + y * 256) s (lit≤ tt))

  pub by_4 : at + 4 ≤ length p → bytes_of 4 (four_at p at) ++ take 12 s ≡ pushed_all s (take 4 (drop at p))
  by_4 h = sym (ap (pushed_all s) (sym (le4_of p at h B) ∙ sym (low_4 (four_at p at))) ∙ pushes_lay 3 (four_at p at) s (lit≤ tt))

  pub by_8 : at + 8 ≤ length p → eight (eight_at p at) ++ take 8 s ≡ pushed_all s (take 8 (drop at p))
  unfolding eight
  by_8 h = sym (ap (pushed_all s) (sym (le8_of p at h B) ∙ sym (low_8 (eight_at p at))) ∙ pushes_lay 7 (eight_at p at) s (lit≤ tt))

  pub by_1 : at < length p → length p ≤ at + 1 → bytes_of 1 (get_or p at 0) ++ take 15 s ≡ pushed_all s (drop at p)
  by_1 h l =
      let few : length p ≤ suc at = omega arith in
      one_byte s (get_or p at 0) (B at)
      ∙ sym (ap (pushed_all s) (drop-cons p at 0 h ∙ ap (λ (t : List ℕ). get_or p at 0 ∷ t) (drop_of_length-le p few)))

-- the bytes p that are left, k at most: pushed on the stack so far they give the whole
pub record Left (k : ℕ) (whole s p : List ℕ) : Type 0 where
  pub bytes : (j : ℕ) → get_or p j 0 < 256
  pub few : length p ≤ k
  pub gives : pushed_all s p ≡ whole

pub left_more : (n k m : ℕ) (whole s p : List ℕ) {t q : List ℕ} → Left k whole s p → n ≤ length p → k ≤ n + m → t ≡ pushed_all s (take n p)
    → q ≡ take (length p - n) (drop n p) → Left m whole t q
left_more n k m whole s p v h l et eq =
    let d : take (length p - n) (drop n p) ≡ drop n p = take_all (length p - n) (drop n p) (simp length-drop (omega arith)) in
    let e = eq ∙ d in
    record {
      bytes = λ j. subst (λ (x : List ℕ). get_or x j 0 < 256) (sym e) (subst (λ (x : ℕ). x < 256) (sym (get_or-drop n p j 0)) (v.bytes (n + j)));
      few = subst (λ (x : List ℕ). length x ≤ m) (sym e) (simp length-drop (omega (arith, v.few)));
      gives = ap₂ pushed_all et e ∙ sym (pushes_append (take n p) (drop n p) s) ∙ ap (pushed_all s) (take-append-drop n p) ∙ v.gives;
    }

pub left_not : (k m : ℕ) (whole s p : List ℕ) {t q : List ℕ} → Left k whole s p → length p ≤ m → t ≡ s → q ≡ p → Left m whole t q
left_not k m whole s p v l et eq = rw (et, eq) (record { bytes = v.bytes; few = l; gives = v.gives })

-- ---- popped
-- the word on top, written, is what k pops hand out, and the stack turned by it is what they leave
module _ (t u k : ℕ) (K : k ≤ 8) where
  pub left : {s : List ℕ} → s ≡ rotated k (eight t ++ eight u) → s ≡ popped_all k (eight t ++ eight u)
  left e = e ∙ sym (pops_turn k (eight t ++ eight u) (omega (arith, length-stack t u)))

  pub word_handed : (r : ℕ) → r ≡ tos k (eight t ++ eight u) → bytes_of k r ≡ handed_out k (eight t ++ eight u)
  word_handed r q =
      let h : k ≤ length (eight t ++ eight u) = omega (arith, length-stack t u) in
      ap (bytes_of k) q ∙ bytes_tos k (eight t ++ eight u) (is_stack t u).bytes h ∙ sym (pops_hand k (eight t ++ eight u) h)

pub eight_handed : (t u : ℕ) → eight t ≡ handed_out 8 (eight t ++ eight u)
unfolding eight
eight_handed t u = refl

-- popped up to a place of n, k bytes at most being left: the stack, and what stands in the room
abbrev pub Popped : ℕ → ℕ → List ℕ → List ℕ → List ℕ → ℕ → List ℕ → Type 0
Popped k n b room s i now = (i ≤ n) × (n ≤ i + k) × (length now ≡ length room) × (s ≡ popped_all i b) × (now ≡ paste room 0 (handed_out i b) i)

-- none yet, c bytes more, and no more
pub pop_none : (n : ℕ) (b room : List ℕ) → Popped n n b room b 0 room
pop_none n b room = (omega arith, omega arith, refl, refl, paste-zero room 0 (handed_out 0 b))

pub pop_more : (n : ℕ) (b room s : List ℕ) (i : ℕ) (now : List ℕ) (c m k : ℕ) {t : List ℕ} {j : ℕ} {then : List ℕ} → n ≤ length room
    → Popped m n b room s i now → i + c ≤ n → m ≤ c + k → t ≡ popped_all c s → then ≡ paste now i (handed_out c s) c → j ≡ i + c
    → Popped k n b room t j then
pop_more n b room s i now c m k {t} {j} {then} f v h l et eh ej =
    let g : 0 + i ≤ length room = omega (arith, v.0) in
    let z : 0 + i ≡ i = omega arith in
    let w : i + c ≤ length now = omega (arith, v.2) in
    let o = pop_on b room 0 i c g in
    let size = length-paste now i (handed_out c s) c w (omega (arith, length-handed c s)) in
    subst (λ (x : ℕ). Popped k n b room t x then) (sym ej) (
      h,
      omega (arith, v.1),
      ap length eh ∙ size ∙ v.2,
      et ∙ ap (popped_all c) v.3 ∙ o.0,
      eh ∙ ap₂ (λ (r l : List ℕ). paste r i (handed_out c l) c) v.4 v.3
          ∙ ap (λ (x : ℕ). paste (paste room 0 (handed_out i b) i) x (handed_out c (popped_all i b)) c) (sym z)
          ∙ o.1,
    )

pub pop_not : (n : ℕ) (b room : List ℕ) {s : List ℕ} {i : ℕ} {now : List ℕ} (m k : ℕ) {t : List ℕ} {j : ℕ} {then : List ℕ}
    → Popped m n b room s i now → n ≤ i + k → t ≡ s → then ≡ now → j ≡ i → Popped k n b room t j then
pop_not n b room m k v l et eh ej = rw (et, eh, ej) (v.0, l, v.2, v.3, v.4)

-- all of them
pub pop_all_lem : (n : ℕ) (b room s : List ℕ) (i : ℕ) (now : List ℕ) → Popped 0 n b room s i now → (s ≡ popped_all n b) × (now ≡ handed_out n b ++ drop n room)
pop_all_lem n b room s i now v =
    let z : i ≡ n = omega (arith, v.0, v.1) in
    (v.3 ∙ ap (λ (x : ℕ). popped_all x b) z, v.4 ∙ ap (λ (x : ℕ). paste room 0 (handed_out x b) x) z ∙ popped_front n b room)

-- one byte stored
pub byte_laid : (room b : List ℕ) (i v : ℕ) → i < length room → v ≡ top_byte b → set room i v ≡ paste room i (handed_out 1 b) 1
byte_laid room b i v h e =
    set_split room i v h
    ∙ ap₂ (λ (x y : ℕ). take i room ++ (x ∷ drop y room)) e (sym (add-one i))
    ∙ sym (append_assoc (take i room) (top_byte b ∷ []) (drop (i + 1) room))
