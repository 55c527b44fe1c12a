mod ConnectionStepLaws
mod Pages
mod Servings
mod LastingFrames
mod DiskCauses
mod OwnersKept
mod OwnerServings
mod OwnersServedLaws
