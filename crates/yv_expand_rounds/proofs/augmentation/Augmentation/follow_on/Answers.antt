use Rattle.std.proofs.Common.{List, Bool, sym, ◌∙◌}
use Rattle.yv_expand_rounds.specs.declared.end.End.{End}
use Rattle.yv_expand_rounds.specs.InnerPendingPaths.{IsFollowed}
use Rattle.yv_expand_rounds.proofs.FollowedPaths.{followed_end, followed_trail, kept_trail, trail_leads}
use Rattle.yv_expand_rounds.proofs.augmentation.Augmentation.follow_on.Goals as goal

pub returns-clause-end : goal.returns-clause-end
returns-clause-end c = λ labels st is are.
    let marks : List Bool = c.args.hidden.now.marks.items in
    let before : List End = c.args.trail.now.ends.items in
    let mid : List End = c.retreat.new.self.ends.items in
    let f : IsFollowed labels st.groups c.args.path.now mid c.follow.new.trail.ends.items =
    c.in_ok-follow.ensures labels st.groups is.places
    (trail_leads labels st.groups marks c.args.path.now mid (kept_trail labels st.groups marks c.args.path.now before mid are c.retreat.ensures.keeps)
    c.retreat.ensures.shows) in
    c.end_of.ensures ∙ sym (followed_end labels st.groups c.args.path.now mid c.follow.new.trail.ends.items f)

pub returns-clause-trail : goal.returns-clause-trail
returns-clause-trail c = λ labels st is are.
    let marks : List Bool = c.args.hidden.now.marks.items in
    let before : List End = c.args.trail.now.ends.items in
    let mid : List End = c.retreat.new.self.ends.items in
    let f : IsFollowed labels st.groups c.args.path.now mid c.follow.new.trail.ends.items =
    c.in_ok-follow.ensures labels st.groups is.places
    (trail_leads labels st.groups marks c.args.path.now mid (kept_trail labels st.groups marks c.args.path.now before mid are c.retreat.ensures.keeps)
    c.retreat.ensures.shows) in
    followed_trail labels st.groups marks c.args.path.now before mid c.follow.new.trail.ends.items are c.retreat.ensures.keeps f
