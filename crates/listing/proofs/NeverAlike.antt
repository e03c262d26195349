-- Two rows that print alike are the same, line by line.
use Rattle.std.proofs.Common.{◌≡◌, ℕ, ◌+◌, List, [], ◌∷◌, ◌++◌, get_or, codes, decimal, sym, refl, ap, ◌∙◌, ap₂, arith}
use Rattle.std.proofs.lemmas.List.{append_assoc, append_cancel_left}
use Rattle.std.proofs.lemmas.Fmt.{decimal_injective}
use Rattle.model.specs.Node.{Does, Halt, Look, Ask, Do, Node, node}
use Rattle.listing.specs.Listing.{Names, does_text, line_at, line_of, listed}
use Rattle.listing.specs.Alike.{Readable, Small, DoesKnown, StageKnown, Known, NeverAlike}
use Rattle.listing.proofs.Cuts.{cut, decimal_plain}
use Rattle.listing.proofs.Alike.{differ, same_does, does_line}

module _ (ns : Names) (readable : Readable ns) where
  -- a line with a stage, and what follows it, with the parts one behind the other
  staged : ℕ → ℕ → Does → List ℕ → List ℕ
  staged i s d more = codes "node " ++ (decimal i ++ (codes " stage " ++ (decimal s ++ (codes ": " ++ (does_text ns d ++ (10 ∷ more))))))

  opened : (i s : ℕ) (d : Does) (more : List ℕ) →
      (codes "node " ++ (decimal i ++ (codes " stage " ++ (decimal s ++ (codes ": " ++ (does_text ns d ++ codes "\n")))))) ++ more ≡ staged i s d more
  unfolding staged
  opened i s d more =
      ap (λ (l : List ℕ). codes "node " ++ l)
      (append_assoc (decimal i) (codes " stage " ++ (decimal s ++ (codes ": " ++ (does_text ns d ++ codes "\n")))) more
      ∙ ap (λ (l : List ℕ). decimal i ++ (codes " stage " ++ l))
      (append_assoc (decimal s) (codes ": " ++ (does_text ns d ++ codes "\n")) more
      ∙ ap (λ (l : List ℕ). decimal s ++ (codes ": " ++ l)) (append_assoc (does_text ns d) (codes "\n") more)))

  same_staged : (i s t : ℕ) (d e : Does) (l m : List ℕ) → Small s → Small t → DoesKnown ns d → DoesKnown ns e → staged i s d l ≡ staged i t e m → (node s d ≡ node t e) × (l ≡ m)
  unfolding staged
  same_staged i s t d e l m hs ht hd he h =
      let behind = append_cancel_left (decimal i) (codes " stage " ++ (decimal s ++ (codes ": " ++ (does_text ns d ++ (10 ∷ l))))) (codes " stage " ++ (decimal t ++ (codes ": " ++ (does_text ns e ++ (10 ∷ m)))))
      (append_cancel_left (codes "node ") (decimal i ++ (codes " stage " ++ (decimal s ++ (codes ": " ++ (does_text ns d ++ (10 ∷ l)))))) (decimal i ++ (codes " stage " ++ (decimal t ++ (codes ": " ++ (does_text ns e ++ (10 ∷ m)))))) h) in
      let stages = cut 58 (decimal s) (decimal t) (32 ∷ (does_text ns d ++ (10 ∷ l))) (32 ∷ (does_text ns e ++ (10 ∷ m))) (decimal_plain s hs).no_colon (decimal_plain t ht).no_colon
      (append_cancel_left (codes " stage ") (decimal s ++ (codes ": " ++ (does_text ns d ++ (10 ∷ l)))) (decimal t ++ (codes ": " ++ (does_text ns e ++ (10 ∷ m)))) behind) in
      let does = cut 10 (does_text ns d) (does_text ns e) l m (does_line ns readable d hd) (does_line ns readable e he)
      (append_cancel_left (codes " ") (does_text ns d ++ (10 ∷ l)) (does_text ns e ++ (10 ∷ m)) stages.1) in
      (ap₂ node (decimal_injective s t hs ht stages.0) (same_does ns readable d e hd he does.0), does.1)

  -- a halt is no node with a stage
  halted : ℕ → List ℕ → List ℕ
  halted i more = codes "node " ++ (decimal i ++ (codes ": halt\n" ++ more))

  halt_opened : (i : ℕ) (more : List ℕ) → (codes "node " ++ (decimal i ++ codes ": halt\n")) ++ more ≡ halted i more
  unfolding halted
  halt_opened i more = ap (λ (l : List ℕ). codes "node " ++ l) (append_assoc (decimal i) (codes ": halt\n") more)

  same_halted : (i : ℕ) (l m : List ℕ) → halted i l ≡ halted i m → l ≡ m
  unfolding halted
  same_halted i l m h =
      append_cancel_left (codes ": halt\n") l m
      (append_cancel_left (decimal i) (codes ": halt\n" ++ l) (codes ": halt\n" ++ m)
      (append_cancel_left (codes "node ") (decimal i ++ (codes ": halt\n" ++ l)) (decimal i ++ (codes ": halt\n" ++ m)) h))

  not_halted : {P : Type 0} (i s : ℕ) (d : Does) (l m : List ℕ) → halted i l ≡ staged i s d m → P
  unfolding halted staged
  not_halted i s d l m h =
      differ 0 58 32 (codes ": halt\n" ++ l) (codes " stage " ++ (decimal s ++ (codes ": " ++ (does_text ns d ++ (10 ∷ m)))))
      (append_cancel_left (decimal i) (codes ": halt\n" ++ l) (codes " stage " ++ (decimal s ++ (codes ": " ++ (does_text ns d ++ (10 ∷ m)))))
      (append_cancel_left (codes "node ") (decimal i ++ (codes ": halt\n" ++ l)) (decimal i ++ (codes " stage " ++ (decimal s ++ (codes ": " ++ (does_text ns d ++ (10 ∷ m)))))) h))
      refl refl (λ (z : 58 ≡ 32). omega arith)

  same_line : (i s t : ℕ) (d e : Does) (l m : List ℕ) → StageKnown s d → StageKnown t e → DoesKnown ns d → DoesKnown ns e → line_at ns i s d ++ l ≡ line_at ns i t e ++ m → (node s d ≡ node t e) × (l ≡ m)
  same_line i s t Halt Halt l m hs ht hd he h = (ap (λ (z : ℕ). node z Halt) (hs ∙ sym ht), same_halted i l m (sym (halt_opened i l) ∙ h ∙ halt_opened i m))
  same_line i s t Halt (Look u j) l m hs ht hd he h = not_halted i t (Look u j) l m (sym (halt_opened i l) ∙ h ∙ opened i t (Look u j) m)
  same_line i s t Halt (Ask c j k) l m hs ht hd he h = not_halted i t (Ask c j k) l m (sym (halt_opened i l) ∙ h ∙ opened i t (Ask c j k) m)
  same_line i s t Halt (Do a j) l m hs ht hd he h = not_halted i t (Do a j) l m (sym (halt_opened i l) ∙ h ∙ opened i t (Do a j) m)
  same_line i s t (Look u j) Halt l m hs ht hd he h = not_halted i s (Look u j) m l (sym (sym (opened i s (Look u j) l) ∙ h ∙ halt_opened i m))
  same_line i s t (Look u j) (Look w k) l m hs ht hd he h = same_staged i s t (Look u j) (Look w k) l m hs ht hd he (sym (opened i s (Look u j) l) ∙ h ∙ opened i t (Look w k) m)
  same_line i s t (Look u j) (Ask c k n) l m hs ht hd he h = same_staged i s t (Look u j) (Ask c k n) l m hs ht hd he (sym (opened i s (Look u j) l) ∙ h ∙ opened i t (Ask c k n) m)
  same_line i s t (Look u j) (Do a k) l m hs ht hd he h = same_staged i s t (Look u j) (Do a k) l m hs ht hd he (sym (opened i s (Look u j) l) ∙ h ∙ opened i t (Do a k) m)
  same_line i s t (Ask c j k) Halt l m hs ht hd he h = not_halted i s (Ask c j k) m l (sym (sym (opened i s (Ask c j k) l) ∙ h ∙ halt_opened i m))
  same_line i s t (Ask c j k) (Look w n) l m hs ht hd he h = same_staged i s t (Ask c j k) (Look w n) l m hs ht hd he (sym (opened i s (Ask c j k) l) ∙ h ∙ opened i t (Look w n) m)
  same_line i s t (Ask c j k) (Ask b n o) l m hs ht hd he h = same_staged i s t (Ask c j k) (Ask b n o) l m hs ht hd he (sym (opened i s (Ask c j k) l) ∙ h ∙ opened i t (Ask b n o) m)
  same_line i s t (Ask c j k) (Do a n) l m hs ht hd he h = same_staged i s t (Ask c j k) (Do a n) l m hs ht hd he (sym (opened i s (Ask c j k) l) ∙ h ∙ opened i t (Do a n) m)
  same_line i s t (Do a j) Halt l m hs ht hd he h = not_halted i s (Do a j) m l (sym (sym (opened i s (Do a j) l) ∙ h ∙ halt_opened i m))
  same_line i s t (Do a j) (Look w k) l m hs ht hd he h = same_staged i s t (Do a j) (Look w k) l m hs ht hd he (sym (opened i s (Do a j) l) ∙ h ∙ opened i t (Look w k) m)
  same_line i s t (Do a j) (Ask c k n) l m hs ht hd he h = same_staged i s t (Do a j) (Ask c k n) l m hs ht hd he (sym (opened i s (Do a j) l) ∙ h ∙ opened i t (Ask c k n) m)
  same_line i s t (Do a j) (Do b k) l m hs ht hd he h = same_staged i s t (Do a j) (Do b k) l m hs ht hd he (sym (opened i s (Do a j) l) ∙ h ∙ opened i t (Do b k) m)

  begins : (i s : ℕ) (d : Does) (l : List ℕ) → get_or (line_at ns i s d ++ l) 0 0 ≡ 110
  begins i s Halt l = refl
  begins i s (Look t j) l = refl
  begins i s (Ask c j k) l = refl
  begins i s (Do a j) l = refl

  same_rows : (i : ℕ) (xs ys : List Node) → Known ns xs → Known ns ys → listed ns i xs ≡ listed ns i ys → xs ≡ ys
  unfolding listed
  same_rows i [] [] hx hy h = refl
  same_rows i [] (y ∷ ys) hx hy h = differ 0 0 110 [] (line_of ns i y ++ listed ns (i + 1) ys) h refl (begins i y.stage y.does (listed ns (i + 1) ys)) (λ (z : 0 ≡ 110). omega arith)
  same_rows i (x ∷ xs) [] hx hy h = differ 0 110 0 (line_of ns i x ++ listed ns (i + 1) xs) [] h (begins i x.stage x.does (listed ns (i + 1) xs)) refl (λ (z : 110 ≡ 0). omega arith)
  same_rows i (x ∷ xs) (y ∷ ys) hx hy h =
      let line = same_line i x.stage y.stage x.does y.does (listed ns (i + 1) xs) (listed ns (i + 1) ys) hx.0 hy.0 hx.1 hy.1 h in
      ap₂ (λ (n : Node) (l : List Node). n ∷ l) line.0 (same_rows (i + 1) xs ys hx.2 hy.2 line.1)

pub never_alike : NeverAlike
never_alike ns readable xs ys hx hy h = same_rows ns readable 0 xs ys hx hy h
