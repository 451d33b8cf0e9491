-- Where a Text ends.
use Rattle.std.proofs.Common.{◌≡◌, ℕ, suc, ◌+◌, Bool, true, false, not, List, [], ◌∷◌, ◌++◌, length, Option, None, Some, refl, ap, ◌∙◌, sym, arith, if◌then◌else◌, ◌==◌, ◌<◌, ◌≢◌, get_or, drop, add-zero}
use Rattle.std.proofs.lemmas.Bool.{not-true}
use Rattle.std.proofs.lemmas.Bool.Decides.{Decides-eqb}
use Rattle.std.proofs.lemmas.List.{at_drop_more, at_drop_all}
use Rattle.std.specs.Option.{option_map}
use Rattle.odata_lex.specs.Token.{apostrophe, apostrophes_doubled, EndsBefore}
use Rattle.odata_lex.specs.First.{text_len}
use Rattle.odata_lex.proofs.Runs.{not_equal}
use Rattle.odata_lex.specs.declared.token.TokenKind.TheVariants.{Text}

-- the `'` that may be the last one
abbrev pub lead : Bool → List ℕ
lead true = apostrophe ∷ []
lead false = []

-- the Text goes on for n bytes and ends there
pub record Closes (closed : Bool) (text : List ℕ) (n : ℕ) : Type 0 where
  pub body : List ℕ
  pub after : List ℕ
  pub content : List ℕ
  pub split : text ≡ body ++ after
  pub printed : lead closed ++ body ≡ apostrophes_doubled content ++ apostrophe ∷ []
  pub ends : EndsBefore Text after
  pub len : n ≡ length body

abbrev pub ClosesAt : Bool → List ℕ → Option ℕ → Type 0
ClosesAt closed text None = Unit {0}
ClosesAt closed text (Some n) = Closes closed text n

doubled-other : (b : ℕ) (content : List ℕ) → (b == apostrophe) ≡ false → apostrophes_doubled (b ∷ content) ≡ b ∷ apostrophes_doubled content
doubled-other b content other = rw other refl

quote_more : (closed : Bool) (b : ℕ) (text : List ℕ) (o : Option ℕ) → b ≡ apostrophe → ClosesAt (not closed) text o → ClosesAt closed (b ∷ text) (option_map suc o)
quote_more closed b text None is h = tt
quote_more false b text (Some n) is h = record {
  body = b ∷ h.body;
  after = h.after;
  content = h.content;
  split = ap (λ l. b ∷ l) h.split;
  printed = rw is h.printed;
  ends = h.ends;
  len = ap suc h.len;
}
quote_more true b text (Some n) is h = record {
  body = b ∷ h.body;
  after = h.after;
  content = apostrophe ∷ h.content;
  split = ap (λ l. b ∷ l) h.split;
  printed = rw is (ap (λ l. apostrophe ∷ apostrophe ∷ l) h.printed);
  ends = h.ends;
  len = ap suc h.len;
}

other_more : (b : ℕ) (text : List ℕ) (o : Option ℕ) → (b == apostrophe) ≡ false → ClosesAt false text o → ClosesAt false (b ∷ text) (option_map suc o)
other_more b text None other h = tt
other_more b text (Some n) other h = record {
  body = b ∷ h.body;
  after = h.after;
  content = b ∷ h.content;
  split = ap (λ l. b ∷ l) h.split;
  printed = rw (doubled-other b h.content other) (ap (λ l. b ∷ l) h.printed);
  ends = h.ends;
  len = ap suc h.len;
}

closes_at : (closed : Bool) (b : ℕ) (text : List ℕ) (q : Bool) → (b == apostrophe) ≡ q → ((c : Bool) → ClosesAt c text (text_len c text)) → ClosesAt closed (b ∷ text) (if q then option_map suc (text_len (not closed) text) else (if closed then Some 0 else option_map suc (text_len closed text)))
closes_at closed b text true is more = quote_more closed b text _ ((Decides-eqb b apostrophe).0 is) (more (not closed))
closes_at true b text false is more = record { body = []; after = b ∷ text; content = []; split = refl; printed = refl; ends = ap not is; len = refl }
closes_at false b text false is more = other_more b text _ is (more false)

pub closes : (text : List ℕ) (closed : Bool) → ClosesAt closed text (text_len closed text)
unfolding text_len
closes [] true = record { body = []; after = []; content = []; split = refl; printed = refl; ends = tt; len = refl }
closes [] false = tt
closes (b ∷ text) closed = closes_at closed b text _ refl (closes text)

-- and where one ends, it is found
pub text_len-quote : (closed : Bool) (text : List ℕ) → text_len closed (apostrophe ∷ text) ≡ option_map suc (text_len (not closed) text)
unfolding text_len
text_len-quote closed text = refl

pub text_len-other : (b : ℕ) (text : List ℕ) → (b == apostrophe) ≡ false → text_len false (b ∷ text) ≡ option_map suc (text_len false text)
unfolding text_len
text_len-other b text other = rw other refl

text_len-closed : (after : List ℕ) → EndsBefore Text after → text_len true after ≡ Some 0
unfolding text_len
text_len-closed [] ends = refl
text_len-closed (b ∷ after) ends = let other : (b == apostrophe) ≡ false = not-true _ ends in rw other refl

found_at : (b : ℕ) (content after : List ℕ) (q : Bool) → (b == apostrophe) ≡ q → text_len false (apostrophes_doubled content ++ apostrophe ∷ after) ≡ Some (suc (length (apostrophes_doubled content))) → text_len false ((if q then apostrophe ∷ apostrophe ∷ apostrophes_doubled content else b ∷ apostrophes_doubled content) ++ apostrophe ∷ after) ≡ Some (suc (length (if q then apostrophe ∷ apostrophe ∷ apostrophes_doubled content else b ∷ apostrophes_doubled content)))
found_at b content after true is more = rw (text_len-quote, text_len-quote, more) refl
found_at b content after false is more = rw (text_len-other b (apostrophes_doubled content ++ apostrophe ∷ after) is, more) refl

pub text_len-found : (content after : List ℕ) → EndsBefore Text after → text_len false (apostrophes_doubled content ++ apostrophe ∷ after) ≡ Some (suc (length (apostrophes_doubled content)))
text_len-found [] after ends = rw (text_len-quote, text_len-closed after ends) refl
text_len-found (b ∷ content) after ends = found_at b content after _ refl (text_len-found content after ends)

-- ---- one byte more, of a text read by places

shift : (i : ℕ) (o : Option ℕ) → option_map (λ n. i + n) (option_map suc o) ≡ option_map (λ n. (i + 1) + n) o
shift i None = refl
shift i (Some n) = let e : i + suc n ≡ (i + 1) + n = omega arith in rw e refl

pub quote_at : (found : Option ℕ) (text : List ℕ) (closed : Bool) (i : ℕ) → i < length text → get_or text i 0 ≡ 39 → found ≡ option_map (λ n. i + n) (text_len closed (drop i text)) → found ≡ option_map (λ n. (i + 1) + n) (text_len (not closed) (drop (i + 1) text))
quote_at found text closed i within is so_far =
    let rest : text_len closed (drop i text) ≡ option_map suc (text_len (not closed) (drop (i + 1) text)) =
    at_drop_more (text_len closed) text i 0 within ∙ ap (λ b. text_len closed (b ∷ drop (i + 1) text)) is ∙ text_len-quote closed (drop (i + 1) text) in
    so_far ∙ ap (option_map (λ n. i + n)) rest ∙ shift i _

pub other_at : (found : Option ℕ) (text : List ℕ) (i : ℕ) → i < length text → get_or text i 0 ≢ 39 → found ≡ option_map (λ n. i + n) (text_len false (drop i text)) → found ≡ option_map (λ n. (i + 1) + n) (text_len false (drop (i + 1) text))
other_at found text i within is so_far =
    let rest : text_len false (drop i text) ≡ option_map suc (text_len false (drop (i + 1) text)) =
    at_drop_more (text_len false) text i 0 within ∙ text_len-other _ (drop (i + 1) text) (not_equal _ 39 is) in
    so_far ∙ ap (option_map (λ n. i + n)) rest ∙ shift i _

text_len-past : (b : ℕ) (text : List ℕ) → (b == apostrophe) ≡ false → text_len true (b ∷ text) ≡ Some 0
unfolding text_len
text_len-past b text other = rw other refl

pub closed_at : (found : Option ℕ) (text : List ℕ) (i : ℕ) → i < length text → get_or text i 0 ≢ 39 → found ≡ option_map (λ n. i + n) (text_len true (drop i text)) → Some i ≡ found
closed_at found text i within is so_far =
    let rest : text_len true (drop i text) ≡ Some 0 = at_drop_more (text_len true) text i 0 within ∙ text_len-past _ (drop (i + 1) text) (not_equal _ 39 is) in
    sym (so_far ∙ ap (option_map (λ n. i + n)) rest ∙ ap Some (add-zero i))

end_of : (closed : Bool) → text_len closed [] ≡ (if closed then Some 0 else None)
unfolding text_len
end_of closed = refl

pub end_at : (found : Option ℕ) (text : List ℕ) (closed : Bool) → found ≡ option_map (λ n. length text + n) (text_len closed (drop (length text) text)) → found ≡ (if closed then Some (length text) else None)
end_at found text closed so_far =
    let rest : text_len closed (drop (length text) text) ≡ (if closed then Some 0 else None) = at_drop_all (text_len closed) text (length text) (omega arith) ∙ end_of closed in
    so_far ∙ ap (option_map (λ n. length text + n)) rest ∙ last closed
  where
    last : (c : Bool) → option_map (λ n. length text + n) (if c then Some 0 else None) ≡ (if c then Some (length text) else None)
    last true = ap Some (add-zero (length text))
    last false = refl
