-- Frames that are sent one after another.
use Rattle.std.proofs.Common.{◌≡◌, ℕ, ◌+◌, ◌<◌, ◌≤◌, List, [], ◌∷◌, ◌++◌, take, get_or, length, suc, refl, sym, ap, subst, ◌∙◌}
use Rattle.std.proofs.lemmas.List.{take_all, take_more}
use Rattle.ht_tx.specs.Frames.{FrameView}
use Rattle.ht_tx.specs.Symbols.{IsSymbols, SymbolsView}
use Rattle.ht_tx.specs.Transmitted.{AreTransmitted, IsTransmitted}

more_sent : (fs : List FrameView) (ss : List SymbolsView) (f : FrameView) (s : SymbolsView) → AreTransmitted fs ss → IsTransmitted f s
    → IsSymbols s.rate s.length s.points → AreTransmitted (fs ++ f ∷ []) (ss ++ s ∷ [])
more_sent [] [] f s all sent whole = (sent, whole, tt)
more_sent [] (x ∷ ss) f s all sent whole = absurd all
more_sent (x ∷ fs) [] f s all sent whole = absurd all
more_sent (x ∷ fs) (y ∷ ss) f s all sent whole = (all.0, all.1, more_sent fs ss f s all.2 sent whole)

-- one more frame was sent
pub sent_more : (frames : List FrameView) (k : ℕ) (old new : List SymbolsView) (f : FrameView) (s : SymbolsView) → k < length frames
    → f ≡ get_or frames k f → new ≡ old ++ s ∷ [] → AreTransmitted (take k frames) old → IsTransmitted f s → IsSymbols s.rate s.length s.points
    → AreTransmitted (take (k + 1) frames) new
sent_more frames k old new f s below here is all sent whole =
    let first : take (k + 1) frames ≡ take k frames ++ f ∷ [] =
    take_more frames k f below ∙ ap (λ (x : FrameView). take k frames ++ x ∷ []) (sym here) in
    subst (λ (fs : List FrameView). AreTransmitted fs new) (sym first)
    (subst (λ (ss : List SymbolsView). AreTransmitted (take k frames ++ f ∷ []) ss) (sym is) (more_sent (take k frames) old f s all sent whole))

-- all frames were sent
pub sent_all : (frames : List FrameView) (k : ℕ) (sent : List SymbolsView) → length frames ≤ k → AreTransmitted (take k frames) sent
    → AreTransmitted frames sent
sent_all frames k sent end all = subst (λ (fs : List FrameView). AreTransmitted fs sent) (take_all k frames end) all

-- nothing was sent yet
pub sent_none : (frames : List FrameView) (sent : List SymbolsView) → sent ≡ [] → AreTransmitted (take 0 frames) sent
sent_none frames sent is = subst (λ (ss : List SymbolsView). AreTransmitted (take 0 frames) ss) (sym is) tt

-- as many symbols as frames
pub length-sent : (frames : List FrameView) (sent : List SymbolsView) → AreTransmitted frames sent → length sent ≡ length frames
length-sent [] [] all = refl
length-sent [] (s ∷ sent) all = absurd all
length-sent (f ∷ frames) [] all = absurd all
length-sent (f ∷ frames) (s ∷ sent) all = ap suc (length-sent frames sent all.2)
