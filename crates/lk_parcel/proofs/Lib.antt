mod Parcels
