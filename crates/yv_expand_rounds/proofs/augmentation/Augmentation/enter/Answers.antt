use Rattle.yv_expand_rounds.proofs.augmentation.Augmentation.enter.Goals as goal

pub returns : goal.returns
returns c = λ labels st is. record { places = c.in_ok-enter.ensures.state labels st.groups is.places; ends = is.ends }
