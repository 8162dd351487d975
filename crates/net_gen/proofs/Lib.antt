pub mod AcceptedTexts
pub mod GeneratedNetworks
pub mod OtherOrders
pub mod RelinedFiles
pub mod Rows
pub mod States
pub mod StimulusTexts
